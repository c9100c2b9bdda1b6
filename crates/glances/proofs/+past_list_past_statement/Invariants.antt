use borrow.Author.Rules.{rules}
use Prim.Native.Nat.{◌-◌, ◌+◌, ◌*◌}
use native.Mathlib.Omega.{arith}
use lib.ListN.{length}
use Rattle.glances.proofs.+past_list_past_statement.Given as goal

-- The bytes left fall: a list calls a statement at the same byte and a list past it, a statement calls lists past its first byte, hence twice the
-- bytes left, and one more for a list. Assumes nothing.
abbrev pub decreases-past_list : goal.decreases-past_list
decreases-past_list l = 2 * (length l.s.now - l.i) + 1

abbrev pub decreases-past_statement : goal.decreases-past_statement
decreases-past_statement l = 2 * (length l.s.now - l.i)
