use mathlib.Core.Path.{◌≡◌}
use Prim.Native.Nat.{◌≤◌}
use lib.ListN.{length}
use Rattle.fronts.proofs.run.Given as goal

-- The loop keeps that the front so far lies in its memory, whose length does not change.
abbrev pub invariant-loop-left : goal.invariant-loop-left
invariant-loop-left l = (l.len ≤ length l.front) × (length l.front ≡ length l.initial.front)

abbrev pub decreases-loop-left : goal.decreases-loop-left
decreases-loop-left l = length l.left
