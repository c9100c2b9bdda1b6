use Prim.Native.Nat.{◌-◌}
use lib.ListN.{length}
use Rattle.visits.proofs.+condition.Given as goal

-- The bytes left fall with each call. A condition with parts gets its answer from those of its parts.
abbrev pub decreases-condition : goal.decreases-condition
decreases-condition l = length l.s.now - l.i
