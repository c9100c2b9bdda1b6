use mathlib.Core.Path.{refl, ap, ◌∙◌}
use Rattle.expressions.specs.Count.{bit}
use Rattle.trees.proofs.leaf.Goals as goal

-- The counts of an atom are what `leaf` sets.
-- Assumes nothing.
pub returns : goal.returns
returns c = record {
  counts = λ p j a here. record { null_is = refl; last_is = c.bit-last.ensures ∙ ap bit here };
  next_of = refl;
  atom_of = refl;
}
