use Rattle.levels.proofs.Measuring.{measured}
use borrow.Author.Rules.{rules}
use Rattle.levels.proofs.Nest.measure.Goals as goal

-- `Nest::measure`: with the size of the model that was read last. Assumes nothing.
pub returns : goal.returns
returns c = search (measured, rules)
