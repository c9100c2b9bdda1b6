use mathlib.Core.Path.{refl, ap, ap₂, ◌∙◌}
use Rattle.expressions.specs.Count.{Count, one, mul, rep}
use Rattle.trees.proofs.star.Goals as goal

-- The counts of a star are by definition the products that `star` makes of its part's.
-- Assumes nothing.
pub returns : goal.returns
returns c = record {
  counts = λ p j e a.
      let turns = c.again-turns.ensures ∙ ap (λ (n : Count). rep n one) a.null_is in
      record { null_is = turns; last_is = c.times-end.ensures ∙ ap₂ mul a.last_is turns };
  next_of = refl;
  atom_of = refl;
}
