use borrow.Author.Rules.{rules}
use Prim.Native.Nat.{◌-◌}
use native.Mathlib.Omega.{arith}
use lib.ListN.{length}
use Rattle.glances.proofs.+only_items.Given as goal

-- The bytes left fall: a statement has a byte at least. Assumes nothing.
abbrev pub decreases-only_items : goal.decreases-only_items
decreases-only_items l = length l.s.now - l.i
