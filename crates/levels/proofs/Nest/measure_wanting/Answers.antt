use Rattle.levels.proofs.Measuring.{measured_wanting}
use borrow.Author.Rules.{rules}
use Rattle.levels.proofs.Nest.measure_wanting.Goals as goal

-- `Nest::measure_wanting`: with the size of a name. Assumes nothing.
pub returns : goal.returns
returns c = search (measured_wanting, rules)
