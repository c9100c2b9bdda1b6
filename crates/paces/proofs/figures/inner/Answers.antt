use borrow.Author.Rules.{rules}
use Rattle.paces.proofs.Laws.{inner_of_lem}
use Rattle.paces.proofs.figures.inner.Goals as goal

pub returns : goal.returns
returns c = search (inner_of_lem, rules)
