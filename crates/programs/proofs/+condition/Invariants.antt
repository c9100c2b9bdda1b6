use Prim.Native.Nat.{◌-◌}
use lib.ListN.{length}
use Rattle.programs.proofs.+condition.Given as goal

-- The bytes left fall with each call, since a reading ends past its start. A condition with parts is read from the readings of its parts,
-- one level deeper. Assumes nothing.
abbrev pub decreases-condition : goal.decreases-condition
decreases-condition l = length l.s.now - l.i
