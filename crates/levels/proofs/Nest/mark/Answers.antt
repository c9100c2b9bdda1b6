use Rattle.levels.proofs.Laws.{mark_is}
use borrow.Author.Rules.{rules}
use Rattle.levels.proofs.Nest.mark.Goals as goal

-- `Nest::mark`: the model with its mark. Assumes nothing.
pub returns : goal.returns
returns c = search (mark_is, rules)
