use Prim.Native.Nat.{◌-◌, ◌≤◌}
use lib.ListN.{length, take}
use Rattle.notation.specs.Gaps.{Gap}
use Rattle.gaps.proofs.skip.Given as goal

-- The loop keeps that what is behind it is a gap.
abbrev pub invariant-loop-i : goal.invariant-loop-i
invariant-loop-i l = (l.i ≤ length l.x) × Gap (take l.i l.x)

abbrev pub decreases-loop-i : goal.decreases-loop-i
decreases-loop-i l = length l.x - l.i
