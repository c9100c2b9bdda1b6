use Prim.Native.Nat.{◌-◌, ◌+◌, ◌*◌}
use lib.ListN.{length}
use Rattle.visits.proofs.+list_statement.Given as goal

-- The bytes left fall: a list calls a statement at the same byte and a list past it, a statement calls lists past its first byte, hence twice the
-- bytes left, and one more for a list. What a branch or a list comes to is put together from what its parts came to. Assumes nothing.
abbrev pub decreases-list : goal.decreases-list
decreases-list l = 2 * (length l.s.now - l.i) + 1

abbrev pub decreases-statement : goal.decreases-statement
decreases-statement l = 2 * (length l.s.now - l.i)
