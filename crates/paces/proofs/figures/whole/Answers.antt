use borrow.Author.Rules.{rules}
use Rattle.paces.proofs.Laws.{whole_of}
use Rattle.paces.proofs.figures.whole.Goals as goal

pub returns : goal.returns
returns c = search (whole_of, rules)
