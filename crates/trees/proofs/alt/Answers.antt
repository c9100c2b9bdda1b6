use mathlib.Core.Path.{refl, ap₂, ◌∙◌}
use Rattle.expressions.specs.Count.{add}
use Rattle.trees.proofs.alt.Goals as goal

-- The counts of a union are by definition the sums that `alt` makes of its parts'.
-- Assumes nothing.
pub returns : goal.returns
returns c = record {
  counts = λ p j e f a b. record {
    null_is = c.plus-null.ensures ∙ ap₂ add a.null_is b.null_is;
    last_is = c.plus-last.ensures ∙ ap₂ add a.last_is b.last_is;
  };
  next_of = refl;
  atom_of = refl;
}
