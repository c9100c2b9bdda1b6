use Prim.Native.Nat.{◌-◌, ◌+◌, ◌*◌}
use lib.ListN.{length}
use Rattle.gleans.proofs.+keep_list_keep_statement.Given as goal

-- The bytes left fall: a list calls a statement at the same byte and a list past it, a statement calls lists past its first byte, hence twice the
-- bytes left, and one more for a list. Assumes nothing.
abbrev pub decreases-keep_list : goal.decreases-keep_list
decreases-keep_list l = 2 * (length l.s.now - l.i) + 1

abbrev pub decreases-keep_statement : goal.decreases-keep_statement
decreases-keep_statement l = 2 * (length l.s.now - l.i)
