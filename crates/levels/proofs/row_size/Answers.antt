use Rattle.levels.proofs.Measuring.{row_size_lem}
use borrow.Author.Rules.{rules}
use Rattle.levels.proofs.row_size.Goals as goal

-- `row_size`: two bytes a node. Assumes nothing.
pub returns : goal.returns
returns c = search (row_size_lem, rules)
