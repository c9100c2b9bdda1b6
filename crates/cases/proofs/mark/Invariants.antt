use Prim.Native.Nat.{◌<◌}
use Rattle.cases.proofs.mark.Given as goal

-- A mark stays below what it is taken modulo of.
abbrev pub invariant-loop-b : goal.invariant-loop-b
invariant-loop-b l = l.m < 4294967296
