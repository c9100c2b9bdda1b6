use Rattle.levels.proofs.Laws.{join_is}
use borrow.Author.Rules.{rules}
use Rattle.levels.proofs.Nest.join.Goals as goal

-- `Nest::join`: the model stands to the left. Assumes nothing.
pub returns : goal.returns
returns c = search (join_is, rules)
