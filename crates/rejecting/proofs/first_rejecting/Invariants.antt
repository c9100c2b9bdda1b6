use mathlib.Core.List.{List}
use Prim.Native.Nat.{ℕ}
use Rattle.live.specs.Live.{full}
use Rattle.rejecting.proofs.Rows.{PassedTo}
use Rattle.rejecting.proofs.first_rejecting.Given as goal

-- The loop keeps that the brackets so far pass.
abbrev pub invariant-loop-i : goal.invariant-loop-i
invariant-loop-i l = (b : List ℕ) → PassedTo l.s l.q l.line (full l.z b) l.i
