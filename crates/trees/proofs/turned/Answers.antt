use mathlib.Core.Path.{ap₂, ◌∙◌}
use Rattle.expressions.specs.Count.{mul}
use Rattle.trees.proofs.turned.Goals as goal

-- The product that `turned` makes.
-- Assumes nothing.
pub returns : goal.returns
returns c = c.times.ensures ∙ ap₂ mul c.plus-starts.ensures c.again-turns.ensures
