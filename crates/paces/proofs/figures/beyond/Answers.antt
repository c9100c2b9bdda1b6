use borrow.Author.Rules.{rules}
use Rattle.paces.proofs.Laws.{beyond_there}
use Rattle.paces.proofs.figures.beyond.Goals as goal

pub returns-then-b : goal.returns-then-b
returns-then-b c = search (beyond_there, rules)
