use Rattle.std.proofs.Common.{◌≡◌}
use Rattle.modelling.proofs.names.declaration.Given as goal

-- The names are those of the text.
abbrev pub invariant-loop-w : goal.invariant-loop-w
invariant-loop-w l = (goal.iterator-loop-w).can_next l.w-iterator × (goal.iterator-loop-w).is_finite l.w-iterator × (l.w-iterator.text.now ≡ l.text)
