-- Rows of bytes in a store: they lie back to back from its first byte on, beside the place at which each ends, and no two are equal. Assumes nothing.
use Rattle.std.specs.Prelude.{◌≡◌, List, [], ◌∷◌, ◌++◌, ℕ, ◌+◌, length}
use Rattle.encoding.specs.Distinct.{AllDifferent, run_together}

-- where each ends, when they lie back to back from a place on
abbrev pub ends_from : ℕ → List (List ℕ) → List ℕ
ends_from at [] = []
ends_from at (x ∷ l) = (at + length x) ∷ ends_from (at + length x) l

-- the rows of a store are these; what lies behind them, in both, may be anything
pub record RowsIn (bytes ends : List ℕ) (count : ℕ) (l : List (List ℕ)) : Type 0 where
  pub free_bytes : List ℕ
  pub bytes_are : bytes ≡ run_together l ++ free_bytes
  pub free_ends : List ℕ
  pub ends_are : ends ≡ ends_from 0 l ++ free_ends
  pub number : count ≡ length l
  pub different : AllDifferent l

-- there are such rows
pub record HasRows (bytes ends : List ℕ) (count : ℕ) : Type 0 where
  pub rows : List (List ℕ)
  pub are : RowsIn bytes ends count rows
