-- The place at which no continuation is possible, for any kind of row (bytes of a text, tokens of a phrase) and what such a row writes.
-- Assumes nothing.
use Rattle.std.specs.Prelude.{◌≡◌, List, ◌++◌, ℕ, suc, ◌≤◌, ◌<◌, length, take}
use Rattle.notation.specs.Rules.{Rules}
use Rattle.notation.specs.RuleText.{RuleText}

-- some row that writes something begins so
pub record Continues {A R : Type 0} (Writes : List A → R → Type 0) (begin : List A) : Type 0 where
  pub rest : List A
  pub value : R
  pub writes : Writes (begin ++ rest) value

-- the first k of the row go on, and no more of them; where that is all of the row, it writes nothing itself
pub record RefusedAt {A R : Type 0} (Writes : List A → R → Type 0) (row : List A) (k : ℕ) : Type 0 where
  pub reached : k ≤ length row
  pub before : Continues Writes (take k row)
  pub no_further : k < length row → Continues Writes (take (suc k) row) → ⊥
  pub unfinished : k ≡ length row → (v : R) → Writes row v → ⊥

-- what is told of a row: what it writes, or where it is refused
pub data Told {A R : Type 0} (Writes : List A → R → Type 0) (row : List A) : Type 0 where
  written : (v : R) → Writes row v → Told Writes row
  refused : (k : ℕ) → RefusedAt Writes row k → Told Writes row

-- number 40: the text is no rule text, and k is the byte that goes with the number
abbrev pub ByteOf40 : List ℕ → ℕ → Type 0
ByteOf40 text k = RefusedAt RuleText text k
