-- A stream that comes in parts: what the reader answers of a part, and of the stream that it is a part of. Promises.
-- Assumes nothing.
use Rattle.std.specs.Prelude.{ℕ, ◌+◌, ◌≡◌, true, ◌⊎◌, List, [], ◌∷◌, ◌++◌, length}
use Rattle.text.specs.Chars.{Starts}
use Rattle.tokens.specs.declared.Cursor.{Cursor}
use Rattle.tokens.specs.declared.Event.{Event}
use Rattle.tokens.specs.declared.Event.TheVariants.{Character}
use Rattle.tokens.specs.declared.Answer.{Answer}
use Rattle.tokens.specs.declared.Answer.TheVariants.{Token, Waiting, Begun, Bad, Long}
use Rattle.tokens.specs.Tokens.{front, Means}
use Rattle.tokens.specs.Stream.{moved}

-- the number of a reference, cut off at 30 or 31 bytes
pub record CutNumber (f : List ℕ) : Type 0 where
  pub opened : Starts f (38 ∷ 35 ∷ [])
  pub long : (length f ≡ 30) ⊎ (length f ≡ 31)

-- what waits is a CR, which is the last byte, and LF. With LF behind it the two are one token, with another byte the CR is one by itself; both are that LF
pub record Settles (f : List ℕ) (at : ℕ) (e : Event) (next : Cursor) : Type 0 where
  pub is_cr : f ≡ 13 ∷ []
  pub is_lf : e ≡ Character 10 true
  pub past_it : next.at ≡ at + 1
  pub with_lf : (l : List ℕ) → Means (13 ∷ 10 ∷ l) at (Token e (record { at = at + 2 }))
  pub with_other : (b : ℕ) (l : List ℕ) → (b ≡ 10 → ⊥) → Means (13 ∷ b ∷ l) at (Token e next)

abbrev pub WaitingSettles : Type 0
WaitingSettles = (f : List ℕ) (at : ℕ) (e : Event) (next : Cursor) → Means f at (Waiting e next) → Settles f at e next

-- a is read of the front f of a part, later of the stream. A whole token, and bytes that begin none, stay. A number that can only come to more than
-- 32 bytes (21) may turn out to name nothing in Char (20), where it was cut off at 30 or 31 bytes: by 01's words each is what its 32 bytes at most are.
-- A CR that waits is one line end, whatever follows. What is begun is presented again
abbrev pub Alike : List ℕ → Answer → (later : Answer) → Type 0
Alike f (Token e next) later = later ≡ Token e next
Alike f (Waiting e next) later =
    (f ≡ 13 ∷ []) × ((later ≡ Waiting e next) ⊎ ((later ≡ Token e next) ⊎ (later ≡ Token e (record { at = next.at + 1 }))))
Alike f Begun later = Unit {0}
Alike f Bad later = later ≡ Bad
Alike f Long later = (later ≡ Long) ⊎ ((later ≡ Bad) × CutNumber f)

-- a part s, with p before it and r behind it: how a stream is cut into parts changes nothing but that
abbrev pub InParts : Type 0
InParts =
    (p s r : List ℕ) (at : ℕ) (a later : Answer) → Means (front s at) at a → Means (front (p ++ (s ++ r)) (length p + at)) (length p + at) later →
    Alike (front s at) (moved (length p) a) later
