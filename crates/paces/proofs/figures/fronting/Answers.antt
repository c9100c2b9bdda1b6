use borrow.Author.Rules.{rules}
use Rattle.paces.proofs.Laws.{fronting_there}
use Rattle.paces.proofs.figures.fronting.Goals as goal

pub returns-then-before : goal.returns-then-before
returns-then-before c = search (fronting_there, rules)
