-- Line ends (XML 1.0, section 2.11): the characters handed on are those of the stream in which each CR LF, and each CR that no LF follows, is one LF. Promises.
-- Assumes nothing.
use Rattle.std.specs.Prelude.{ℕ, ◌≡◌, Bool, true, false, not, ◌&&◌, List, [], ◌∷◌, length, take, drop, eqb}
use Rattle.text.specs.Chars.{pick}
use Rattle.text.specs.Names.{All}
use Rattle.tokens.specs.declared.Event.{Event}
use Rattle.tokens.specs.declared.Event.TheVariants.{Start, End, Empty, Character}
use Rattle.tokens.specs.Tokens.{Kind, start, end, empty}
use Rattle.tokens.specs.Stream.{Reads}

-- the bytes with line ends normalised, after a CR or not: a CR is LF, and an LF right behind a CR is nothing
abbrev pub normal_after : (after_CR : Bool) → List ℕ → List ℕ
normal_after after [] = []
normal_after after (b ∷ s) = pick (eqb b 13) (10 ∷ normal_after true s) (pick (after && eqb b 10) (normal_after false s) (b ∷ normal_after false s))

abbrev pub normal : List ℕ → List ℕ
normal s = normal_after false s

-- no byte is CR
abbrev pub NoCR : List ℕ → Type 0
NoCR s = All (λ b. not (eqb b 13)) s

-- what an event of the stream s hands on: a tag's kind and name, or a character and whether it stood there itself
pub data Handed : Type 0 where
  a_tag : Kind → List ℕ → Handed
  a_character : ℕ → Bool → Handed

abbrev pub handed_on : List ℕ → Event → Handed
handed_on s (Start from len) = a_tag start (take len (drop from s))
handed_on s (End from len) = a_tag end (take len (drop from s))
handed_on s (Empty from len) = a_tag empty (take len (drop from s))
handed_on s (Character c literal) = a_character c literal

abbrev pub all_handed : List ℕ → List Event → List Handed
all_handed s [] = []
all_handed s (e ∷ es) = handed_on s e ∷ all_handed s es

-- the normalised bytes have no CR, they are read to their end as tokens too, and what is handed on is the same, references included
pub record TranslatedTo (s : List ℕ) (es : List Event) : Type 0 where
  pub no_cr : NoCR (normal s)
  pub again : List Event
  pub reads : Reads true (normal s) 0 again (length (normal s))
  pub same : all_handed s es ≡ all_handed (normal s) again

-- for all bytes that are read as tokens, up to wherever reading comes
abbrev pub Translated : Type 0
Translated = (more : Bool) (s : List ℕ) (es : List Event) (to : ℕ) → Reads more s 0 es to → TranslatedTo (take to s) es
