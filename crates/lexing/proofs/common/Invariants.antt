use mathlib.Core.Path.{◌≡◌}
use Prim.Native.Nat.{◌≤◌}
use lib.ListN.{length, take}
use Rattle.lexing.proofs.common.Given as goal

-- The loop keeps that the first i bytes of both are the same.
abbrev pub invariant-loop-i : goal.invariant-loop-i
invariant-loop-i l = (l.i ≤ length l.x) × (take l.i l.x ≡ take l.i l.w)
