use borrow.Author.Rules.{rules}
use Rattle.paces.proofs.Laws.{barred_of}
use Rattle.paces.proofs.moves.barred.Goals as goal

pub returns : goal.returns
returns c = search (barred_of, rules)
