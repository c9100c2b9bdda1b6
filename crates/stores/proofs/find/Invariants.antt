use mathlib.Core.List.{List}
use Prim.Native.Nat.{ℕ}
use Rattle.stores.specs.Rows.{RowsIn}
use Rattle.stores.proofs.Found.{Left}
use Rattle.stores.proofs.find.Given as goal

-- What is left of the rows is known of all rows that the store has. Assumes nothing.
abbrev pub invariant-loop-i : goal.invariant-loop-i
invariant-loop-i l = (rows : List (List ℕ)) → RowsIn l.bytes l.ends l.count rows → Left l.bytes l.ends l.count l.x l.i l.from rows
