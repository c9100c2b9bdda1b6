-- A row of atoms as the code holds it.
-- Assumes nothing.
use Rattle.std.specs.Prelude.{◌≡◌, List, ◌++◌, ℕ, ◌-◌, length, replicate}
use Rattle.limits.specs.Limits.{nodes_at_most}
use Rattle.shortest.specs.declared.Row.{Row}

-- r is the row: it is that long, its atoms are the first bytes, and those behind them are 0
pub record RowIs (row : List ℕ) (r : Row) : Type 0 where
  pub length_is : r.length ≡ length row
  pub bytes_are : r.bytes ≡ row ++ replicate (nodes_at_most - length row) 0
