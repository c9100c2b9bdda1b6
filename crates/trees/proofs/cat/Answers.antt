use mathlib.Core.Path.{refl, ap₂, ◌∙◌}
use Rattle.expressions.specs.Count.{add, mul}
use Rattle.trees.proofs.cat.Goals as goal

-- The counts of a concatenation are by definition the products and sums that `cat` makes of its parts'.
-- Assumes nothing.
pub returns : goal.returns
returns c = record {
  counts = λ p j e f a b. record {
    null_is = c.times-null.ensures ∙ ap₂ mul a.null_is b.null_is;
    last_is = c.plus-last.ensures ∙ ap₂ add (c.times-out.ensures ∙ ap₂ mul a.last_is b.null_is) b.last_is;
  };
  next_of = refl;
  atom_of = refl;
}
