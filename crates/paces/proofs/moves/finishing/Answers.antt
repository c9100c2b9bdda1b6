use borrow.Author.Rules.{rules}
use Rattle.paces.proofs.Laws.{finishing_close}
use Rattle.paces.proofs.moves.finishing.Goals as goal

pub returns-in-Close : goal.returns-in-Close
returns-in-Close c = search (finishing_close, rules)
