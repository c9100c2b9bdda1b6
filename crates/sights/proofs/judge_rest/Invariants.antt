use Prim.Native.Nat.{◌-◌}
use lib.ListN.{length}
use Rattle.sights.proofs.Rest.{Along}
use Rattle.sights.proofs.judge_rest.Given as goal

abbrev pub invariant-loop-token : goal.invariant-loop-token
invariant-loop-token l = Along l.x l.fn.r l.from l.reader

abbrev pub decreases-loop-token : goal.decreases-loop-token
decreases-loop-token l = length l.x - l.from
