-- What may stand between tokens: white space, and comments from # to the end of the line. Assumes nothing.
use Rattle.std.specs.Prelude.{◌≡◌, Bool, true, not, ◌&&◌, List, [], ◌∷◌, ◌++◌, ℕ, leb, eqb}
use Rattle.text.specs.Names.{blank, All}

-- a byte of a comment: any but 0 and LF
abbrev pub in_comment : ℕ → Bool
in_comment b = (leb 1 b && leb b 255) && not (eqb b 10)

-- between tokens, and before the first: 35 is #, 10 is LF
pub data Gap : List ℕ → Type 0 where
  none : Gap []
  white : {b : ℕ} {g : List ℕ} → blank b ≡ true → Gap g → Gap (b ∷ g)
  comment : (c : List ℕ) {g : List ℕ} → All in_comment c → Gap g → Gap (35 ∷ (c ++ 10 ∷ g))

-- after the last token: the text's end may end a comment too
pub data Ending : List ℕ → Type 0 where
  gap : {g : List ℕ} → Gap g → Ending g
  open_comment : {g : List ℕ} (c : List ℕ) → Gap g → All in_comment c → Ending (g ++ 35 ∷ c)
