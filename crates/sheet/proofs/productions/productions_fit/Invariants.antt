use mathlib.Core.Path.{◌≡◌}
use Prim.Native.Nat.{ℕ, ◌*◌, ◌≤◌, ◌<◌}
use Rattle.layout.specs.Records.{nodes_before}
use Rattle.sheet.specs.Productions.{ProductionFits}
use Rattle.sheet.proofs.productions.productions_fit.Given as goal

-- Every production passed so far fits, and the sum is that of the nodes before the next.
abbrev pub invariant-loop-q : goal.invariant-loop-q
invariant-loop-q l = (l.before ≤ 255 * l.q) × (l.before ≡ nodes_before l.s l.q) × ((k : ℕ) → k < l.q → ProductionFits l.s k)
