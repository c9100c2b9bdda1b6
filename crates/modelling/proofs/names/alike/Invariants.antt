use Rattle.std.proofs.Common.{◌≡◌, ◌≤◌}
use Rattle.modelling.proofs.names.alike.Given as goal

-- The names are those of the text, behind the place that they went out from.
abbrev pub invariant-loop-e : goal.invariant-loop-e
invariant-loop-e l = (goal.iterator-loop-e).can_next l.e-iterator × (goal.iterator-loop-e).is_finite l.e-iterator × (l.e-iterator.text.now ≡ l.text) × (l.names.at ≤ l.e-iterator.at)
