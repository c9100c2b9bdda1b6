use mathlib.Core.Path.{◌≡◌}
use Prim.Native.Nat.{◌≤◌}
use Rattle.trees.specs.Answers.{alike_before}
use Rattle.trees.proofs.alike.Given as goal

-- `alike` counts the productions that it passes.
-- Assumes nothing.
abbrev pub invariant-loop-q : goal.invariant-loop-q
invariant-loop-q l = (l.count ≤ l.q) × (l.count ≡ alike_before l.s l.m l.t l.q)
