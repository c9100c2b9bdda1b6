use borrow.Author.Rules.{rules}
use Rattle.paces.proofs.Laws.{held_of}
use Rattle.paces.proofs.figures.held.Goals as goal

pub returns : goal.returns
returns c = search (held_of, rules)
