-- What stands in front of the next token of a text. Assumes nothing.
use Rattle.std.specs.Prelude.{◌≡◌, false, List, ◌∷◌, ◌++◌, ℕ, suc, ◌+◌, ◌≤◌, ◌<◌, length, drop, get_or}
use Rattle.text.specs.Names.{blank, All}
use Rattle.notation.specs.Gaps.{in_comment, Gap, Ending}
use Rattle.gaps.specs.declared.Skipped.{Skipped}

-- the bytes of x from `from` on that a comment may hold, up to `to`, where they stop
pub record CommentRun (x : List ℕ) (from to : ℕ) : Type 0 where
  pub low : from ≤ to
  pub high : to ≤ length x
  pub run : List ℕ
  pub held : All in_comment run
  pub split : drop from x ≡ run ++ drop to x
  pub long : from + length run ≡ to
  pub stops : to < length x → in_comment (get_or x to 0) ≡ false

-- a gap and then a byte of none; a gap to the end, perhaps with an open comment; a gap and a comment with a byte that none may hold
pub data SkippedIs (x : List ℕ) : Skipped → Type 0 where
  a_byte : {i b : ℕ} (g y : List ℕ) → Gap g → x ≡ g ++ b ∷ y → i ≡ length g → blank b ≡ false → (b ≡ 35 → ⊥) → SkippedIs x (Skipped.To i)
  the_end : Ending x → SkippedIs x Skipped.End
  a_comment : {i b : ℕ} (g c y : List ℕ) → Gap g → All in_comment c → x ≡ g ++ 35 ∷ (c ++ b ∷ y) → i ≡ length g + suc (length c) → in_comment b ≡ false → (b ≡ 10 → ⊥) → SkippedIs x (Skipped.Bad i)
