use Prim.Native.Nat.{◌-◌, ◌≤◌}
use lib.ListN.{length}
use Rattle.lexing.proofs.Pieces.{SoFar}
use Rattle.lexing.proofs.string.Given as goal

-- The loop keeps the characters read so far.
abbrev pub invariant-loop-i : goal.invariant-loop-i
invariant-loop-i l = (l.i ≤ length l.x) × (l.n ≤ 255) × SoFar l.x l.i l.n

abbrev pub decreases-loop-i : goal.decreases-loop-i
decreases-loop-i l = length l.x - l.i
