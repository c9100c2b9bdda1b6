use Rattle.levels.proofs.Laws.{named_is}
use borrow.Author.Rules.{rules}
use Rattle.levels.proofs.Nest.named.Goals as goal

-- `Nest::named`: the name's node. Assumes nothing.
pub returns : goal.returns
returns c = search (named_is, rules)
