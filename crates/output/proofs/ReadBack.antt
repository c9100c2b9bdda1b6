-- What we write reads back: each piece is written as one token, whose event stands for that piece; tokens that stand in a stream are read
-- (`reads_flat`), so what is read of our text is the pieces again, whatever stands around it.
-- Assumes nothing.
use mathlib.Core.Path.{◌≡◌, refl, sym, ap, ap₂, ◌∙◌, subst}
use mathlib.Core.Logic.{inl, inr}
use mathlib.Core.Bool.{Bool, true, false, not, ◌||◌}
use mathlib.Core.List.{List, [], ◌∷◌, ◌++◌, append_assoc, map}
use Prim.Native.Nat.{ℕ, ◌+◌, ◌≤◌}
use native.Mathlib.Omega.{arith}
use lib.ListN.{length, take, drop, length-append}
use lib.Seq.{drop-append_seam, take-append_seam}
use lib.Dec.{eqb}
use borrow.Author.Tests.{ne_eqb}
use Rattle.text.specs.Characters.{AllChar}
use Rattle.text.specs.Chars.{Char}
use Rattle.text.specs.Names.{name_byte, Name}
use Rattle.text.proofs.NameLaws.{name_all}
use Rattle.tokens.specs.declared.Event.{Event}
use Rattle.tokens.specs.declared.Event.TheVariants.{Character}
use Rattle.tokens.specs.Tokens.{Tok, Good, bytes, event_of}
use Rattle.tokens.specs.Stream.{Reads, AllGood, AllShort, Followed, AllWhole}
use Rattle.tokens.specs.LineEnds.{NoCR}
use Rattle.tokens.proofs.Runs.{all_append}
use Rattle.tokens.proofs.Reading.{utf8_most}
use Rattle.tokens.proofs.Streams.{reads_flat}
use Rattle.tokens.proofs.LineEnds.{no_cr_in, utf8_no_cr}
use Rattle.output.specs.Escape.{escaped_as, escaped, Piece, start, end, character, as_token, as_tokens, written, render, characters, text, PieceFits, AllFit, events_from, pieces, all_pieces, NeverCR}
use Rattle.output.proofs.Writing.{each_token}

-- each piece is written as a token of at most 32 bytes, whatever follows it
piece_good : (p : Piece) → PieceFits p → Good (as_token p)
piece_good (start n) ok = (ok.0, tt)
piece_good (end n) ok = (ok.0, tt)
piece_good (character c) ok =
    each_token Good c (λ h. tt) (λ h. tt) (λ h. tt) (λ h. ((refl, (refl, tt)), inr (inr (inl refl)))) (λ h j k l. (ok, j, h, k, l))

piece_short : (p : Piece) → PieceFits p → length (written p) ≤ 32
piece_short (start n) ok = omega (arith, length-append n (62 ∷ []), ok.1)
piece_short (end n) ok = omega (arith, length-append n (62 ∷ []), ok.1)
piece_short (character c) ok =
    each_token (λ (t : Tok). length (bytes t) ≤ 32) c (λ h. omega arith) (λ h. omega arith) (λ h. omega arith) (λ h. omega arith) (λ h j k l. omega (arith, utf8_most c))

piece_whole : (p : Piece) (rest : List ℕ) → Followed true (as_token p) rest
piece_whole (start n) rest = tt
piece_whole (end n) rest = tt
piece_whole (character c) rest = each_token (λ (t : Tok). Followed true t rest) c (λ h. tt) (λ h. tt) (λ h. tt) (λ h. tt) (λ h j k l. tt)

all_good : (ps : List Piece) → AllFit ps → AllGood (as_tokens ps)
all_good [] ok = tt
all_good (p ∷ ps) ok = (piece_good p ok.0, all_good ps ok.1)

all_short : (ps : List Piece) → AllFit ps → AllShort (as_tokens ps)
all_short [] ok = tt
all_short (p ∷ ps) ok = (piece_short p ok.0, all_short ps ok.1)

all_whole : (ps : List Piece) (rest : List ℕ) → AllWhole true (as_tokens ps) rest
all_whole [] rest = tt
all_whole (p ∷ ps) rest = (piece_whole p (render ps ++ rest), all_whole ps rest)

-- Wherever our text stands in a stream, after p and before r, reading it gives the events of its pieces, and nothing else.
pub reads_back : (ps : List Piece) (p r : List ℕ) → AllFit ps → Reads true (p ++ (render ps ++ r)) (length p) (events_from (length p) ps) (length p + length (render ps))
reads_back ps p r ok = reads_flat true (as_tokens ps) p r (all_good ps ok) (all_short ps ok) (all_whole ps r)

-- the event of a character that is read back: it is literal where it was written as it is
abbrev pub as_itself : ℕ → Bool
as_itself c = not (eqb c 38 || (eqb c 60 || (eqb c 62 || eqb c 13)))

abbrev pub again : ℕ → Event
again c = Character c (as_itself c)

by_reference : (c d : ℕ) → c ≡ d → as_itself d ≡ false → Character d false ≡ again c
by_reference c d h e = ap₂ (λ (x : ℕ) (t : Bool). Character x t) (sym h) (sym e ∙ ap as_itself (sym h))

itself : (c : ℕ) → (c ≡ 38 → ⊥) → (c ≡ 60 → ⊥) → (c ≡ 62 → ⊥) → (c ≡ 13 → ⊥) → true ≡ as_itself c
itself c h k l m = simp (ne_eqb c 38 h, ne_eqb c 60 k, ne_eqb c 62 l, ne_eqb c 13 m)

character_event : (at c : ℕ) → event_of at (escaped_as c) ≡ again c
character_event at c =
    each_token (λ (t : Tok). event_of at t ≡ again c) c (λ h. by_reference c 38 h refl) (λ h. by_reference c 60 h refl) (λ h. by_reference c 62 h refl) (λ h. by_reference c 13 h refl)
    (λ h j k l. ap (Character c) (itself c h j k l))

-- the name that a written tag's event points at, o being what opens the tag
name_back : (p o n r : List ℕ) (i : ℕ) → i ≡ length p + length o → take (length n) (drop i (p ++ (o ++ (n ++ r)))) ≡ n
name_back p o n r i e =
    ap (λ (k : ℕ). take (length n) (drop k (p ++ (o ++ (n ++ r))))) (e ∙ sym (length-append p o))
    ∙ ap (λ (l : List ℕ). take (length n) (drop (length (p ++ o)) l)) (sym (append_assoc p o (n ++ r)))
    ∙ ap (take (length n)) (drop-append_seam (p ++ o) (n ++ r))
    ∙ take-append_seam n r

-- the event of a piece stands for that piece
piece_back : (q : Piece) (p r : List ℕ) → pieces (p ++ (written q ++ r)) (event_of (length p) (as_token q)) ≡ q ∷ []
piece_back (start n) p r = ap (λ (l : List ℕ). start l ∷ []) (ap (λ (l : List ℕ). take (length n) (drop (length p + 1) (p ++ (60 ∷ l)))) (append_assoc n (62 ∷ []) r) ∙ name_back p (60 ∷ []) n (62 ∷ r) (length p + 1) refl)
piece_back (end n) p r = ap (λ (l : List ℕ). end l ∷ []) (ap (λ (l : List ℕ). take (length n) (drop (length p + 2) (p ++ (60 ∷ 47 ∷ l)))) (append_assoc n (62 ∷ []) r) ∙ name_back p (60 ∷ 47 ∷ []) n (62 ∷ r) (length p + 2) refl)
piece_back (character c) p r = ap (pieces (p ++ (escaped c ++ r))) (character_event (length p) c)

-- What is read back are the same pieces, tags with their names.
pub pieces_back : (ps : List Piece) (p r : List ℕ) → all_pieces (p ++ (render ps ++ r)) (events_from (length p) ps) ≡ ps
pieces_back [] p r = refl
pieces_back (q ∷ ps) p r =
    let w : List ℕ = written q in
    let e : p ++ ((w ++ render ps) ++ r) ≡ p ++ (w ++ (render ps ++ r)) = ap (λ (l : List ℕ). p ++ l) (append_assoc w (render ps) r) in
    let e' : (p ++ w) ++ (render ps ++ r) ≡ p ++ ((w ++ render ps) ++ r) = append_assoc p w (render ps ++ r) ∙ sym e in
    ap₂ (λ (x y : List Piece). x ++ y)
    (ap (λ (l : List ℕ). pieces l (event_of (length p) (as_token q))) e ∙ piece_back q p (render ps ++ r))
    (ap₂ (λ (l : List ℕ) (k : ℕ). all_pieces l (events_from k ps)) (sym e') (sym (length-append p w)) ∙ pieces_back ps (p ++ w) r)

-- Text is the case of characters alone: any text we write reads back as the same characters.
pub characters_fit : (cs : List ℕ) → AllChar cs → AllFit (characters cs)
characters_fit [] ok = tt
characters_fit (c ∷ cs) ok = (ok.0, characters_fit cs ok.1)

characters_events : (at : ℕ) (cs : List ℕ) → events_from at (characters cs) ≡ map again cs
characters_events at [] = refl
characters_events at (c ∷ cs) = ap₂ (λ (e : Event) (es : List Event). e ∷ es) (character_event at c) (characters_events (at + length (escaped c)) cs)

pub text_back : (cs p r : List ℕ) → AllChar cs → Reads true (p ++ (text cs ++ r)) (length p) (map again cs) (length p + length (text cs))
text_back cs p r ok =
    subst (λ (es : List Event). Reads true (p ++ (text cs ++ r)) (length p) es (length p + length (text cs))) (characters_events (length p) cs)
    (reads_back (characters cs) p r (characters_fit cs ok))

-- No CR byte is ever written.
name_no_cr : (n : List ℕ) → Name n → NoCR (n ++ (62 ∷ []))
name_no_cr n ok = all_append (λ b. not (eqb b 13)) n (62 ∷ []) (no_cr_in name_byte refl n (name_all n ok)) (refl, tt)

piece_no_cr : (p : Piece) → PieceFits p → NoCR (written p)
piece_no_cr (start n) ok = (refl, name_no_cr n ok.0)
piece_no_cr (end n) ok = (refl, (refl, name_no_cr n ok.0))
piece_no_cr (character c) ok =
    each_token (λ (t : Tok). NoCR (bytes t)) c (λ h. (refl, (refl, (refl, (refl, (refl, tt)))))) (λ h. (refl, (refl, (refl, (refl, tt))))) (λ h. (refl, (refl, (refl, (refl, tt)))))
    (λ h. (refl, (refl, (refl, (refl, (refl, tt)))))) (λ h j k l. utf8_no_cr c l)

pub never_cr : NeverCR
never_cr [] ok = tt
never_cr (p ∷ ps) ok = all_append (λ b. not (eqb b 13)) (written p) (render ps) (piece_no_cr p ok.0) (never_cr ps ok.1)
