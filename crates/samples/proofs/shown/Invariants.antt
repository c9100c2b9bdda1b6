use Prim.Native.Nat.{◌≤◌}
use Rattle.samples.proofs.shown.Given as goal

-- The productions are passed one by one.
abbrev pub invariant-loop-q : goal.invariant-loop-q
invariant-loop-q l = l.best ≤ l.l.productions
