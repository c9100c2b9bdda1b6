-- Worked examples of what is written and read back: a text that looks like a tag, an empty title, a reference.
-- Assumes nothing.
use mathlib.Core.Path.{◌≡◌, refl, sym}
use mathlib.Core.Logic.{inl, inr}
use mathlib.Core.Bool.{Bool, true, false, ◌&&◌, true≢false}
use mathlib.Core.List.{List, [], ◌∷◌, ◌++◌}
use Prim.Native.Nat.{ℕ, ◌+◌}
use native.Mathlib.Omega.{arith}
use lib.ListN.{length}
use lib.Dec.{leb}
use borrow.Author.Tests.{leb-true}
use Rattle.text.specs.Characters.{AllChar}
use Rattle.text.specs.Chars.{utf8}
use Rattle.text.specs.Names.{Name}
use Rattle.tokens.specs.declared.Event.TheVariants.{Start, End, Character}
use Rattle.tokens.specs.declared.Answer.TheVariants.{Token}
use Rattle.tokens.specs.Tokens.{ref, lt, front, Means}
use Rattle.tokens.specs.Stream.{Reads}
use Rattle.tokens.proofs.Streams.{token_at}
use Rattle.output.specs.Escape.{escaped_as, escaped, Piece, start, end, character, render, characters, AllFit, events_from, all_pieces}
use Rattle.output.proofs.ReadBack.{reads_back, pieces_back, characters_fit}

-- title
pub title : List ℕ
title = 116 ∷ 105 ∷ 116 ∷ 108 ∷ 101 ∷ []

title_name : Name title
unfolding title
title_name = (refl, (refl, (refl, (refl, (refl, tt)))))

-- This</title>That
pub guess : List ℕ
guess = 84 ∷ 104 ∷ 105 ∷ 115 ∷ 60 ∷ 47 ∷ 116 ∷ 105 ∷ 116 ∷ 108 ∷ 101 ∷ 62 ∷ 84 ∷ 104 ∷ 97 ∷ 116 ∷ []

-- from space to ~
plain : List ℕ → Bool
plain [] = true
plain (c ∷ cs) = (leb 32 c && leb c 126) && plain cs

both : (a b : Bool) → (a && b) ≡ true → (a ≡ true) × (b ≡ true)
both true true e = (refl, refl)
both true false e = absurd (true≢false (sym e))
both false b e = absurd (true≢false (sym e))

plain_chars : (cs : List ℕ) → plain cs ≡ true → AllChar cs
unfolding plain
plain_chars [] e = tt
plain_chars (c ∷ cs) e =
    let p = both (leb 32 c && leb c 126) (plain cs) e in
    let q = both (leb 32 c) (leb c 126) p.0 in
    (inr (inr (inr (inl (leb-true 32 c q.0, omega (arith, leb-true c 126 q.1))))), plain_chars cs p.1)

fit_append : (ps qs : List Piece) → AllFit ps → AllFit qs → AllFit (ps ++ qs)
fit_append [] qs a b = b
fit_append (p ∷ ps) qs a b = (a.0, fit_append ps qs a.1 b)

-- A title whose text is This</title>That. It is written as <title>This&lt;/title&gt;That</title>, and wherever that stands in a stream it is read
-- as one title with that text.
pub quiz : List Piece
quiz = start title ∷ (characters guess ++ (end title ∷ []))

quiz_text : render quiz
    ≡ 60 ∷ 116 ∷ 105 ∷ 116 ∷ 108 ∷ 101 ∷ 62 ∷ 84 ∷ 104 ∷ 105 ∷ 115 ∷ 38 ∷ 108 ∷ 116 ∷ 59 ∷ 47 ∷ 116 ∷ 105 ∷ 116 ∷ 108 ∷ 101 ∷ 38 ∷ 103 ∷ 116 ∷ 59 ∷ 84 ∷ 104 ∷ 97 ∷ 116
    ∷ 60 ∷ 47 ∷ 116 ∷ 105 ∷ 116 ∷ 108 ∷ 101 ∷ 62 ∷ []
unfolding quiz title guess escaped_as utf8
quiz_text = refl

pub quiz_back : (p r : List ℕ)
    → Reads true (p ++ (render quiz ++ r)) (length p) (events_from (length p) quiz) (length p + length (render quiz)) × (all_pieces (p ++ (render quiz ++ r)) (events_from (length p) quiz) ≡ quiz)
unfolding quiz title guess plain
quiz_back p r =
    (reads_back quiz p r ((title_name, omega arith), fit_append (characters guess) (end title ∷ []) (characters_fit guess (plain_chars guess refl)) ((title_name, omega arith), tt)), pieces_back quiz p r)

-- An empty title is a start and an end, with no characters.
pub empty_title : (render (start title ∷ end title ∷ []) ≡ 60 ∷ 116 ∷ 105 ∷ 116 ∷ 108 ∷ 101 ∷ 62 ∷ 60 ∷ 47 ∷ 116 ∷ 105 ∷ 116 ∷ 108 ∷ 101 ∷ 62 ∷ [])
    × (events_from 0 (start title ∷ end title ∷ []) ≡ Start 1 5 ∷ End 9 5 ∷ [])
unfolding title
empty_title = (refl, refl)

-- The reference &lt; is read as the character <, which is written as &lt; again.
pub reference_again : Means (front (38 ∷ 108 ∷ 116 ∷ 59 ∷ []) 0) 0 (Token (Character 60 false) (record { at = 4 })) × (escaped 60 ≡ 38 ∷ 108 ∷ 116 ∷ 59 ∷ [])
unfolding escaped_as
reference_again = (token_at [] [] (ref lt) tt (omega arith) tt, refl)

-- A CR that a reference names is written as a reference again; the LF after it is another character.
pub cr_again : (render (character 13 ∷ character 10 ∷ []) ≡ 38 ∷ 35 ∷ 49 ∷ 51 ∷ 59 ∷ 10 ∷ [])
    × (events_from 0 (character 13 ∷ character 10 ∷ []) ≡ Character 13 false ∷ Character 10 true ∷ [])
unfolding escaped_as utf8
cr_again = (refl, refl)
