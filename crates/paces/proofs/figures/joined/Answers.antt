use borrow.Author.Rules.{rules}
use Rattle.paces.proofs.Laws.{joined_there}
use Rattle.paces.proofs.figures.joined.Goals as goal

pub returns-then-b : goal.returns-then-b
returns-then-b c = search (joined_there, rules)
