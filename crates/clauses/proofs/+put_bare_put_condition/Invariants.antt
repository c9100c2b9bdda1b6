use borrow.Author.Rules.{rules}
use Prim.Native.Nat.{◌-◌, ◌+◌, ◌*◌}
use native.Mathlib.Omega.{arith}
use lib.ListN.{length}
use Rattle.clauses.proofs.+put_bare_put_condition.Given as goal

-- The bytes left fall: a condition calls itself bare at the same byte, and that calls conditions past its first byte, hence twice the bytes left, and
-- one more for a condition. What is written is put together from what the parts wrote. Assumes nothing.
abbrev pub decreases-put_bare : goal.decreases-put_bare
decreases-put_bare l = 2 * (length l.s.now - l.i)

abbrev pub decreases-put_condition : goal.decreases-put_condition
decreases-put_condition l = 2 * (length l.s.now - l.i) + 1
