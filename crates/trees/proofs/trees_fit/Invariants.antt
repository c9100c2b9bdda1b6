use Prim.Native.Nat.{ℕ, ◌<◌}
use Rattle.trees.specs.Parsed.{HasContent}
use Rattle.trees.proofs.trees_fit.Given as goal

-- `trees_fit` goes through the productions, and each that it passed has its expression.
-- Assumes nothing.
abbrev pub invariant-loop-q : goal.invariant-loop-q
invariant-loop-q l = (k : ℕ) → k < l.q → HasContent l.s k
