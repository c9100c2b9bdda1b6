use borrow.Author.Rules.{rules}
use Rattle.paces.proofs.Laws.{sealed_twice, sealed_once}
use Rattle.paces.proofs.figures.sealed.Goals as goal

pub returns-then-e : goal.returns-then-e
returns-then-e c = search (sealed_twice, sealed_once, rules)

pub returns-then-before : goal.returns-then-before
returns-then-before c = search (sealed_twice, sealed_once, rules)
