use borrow.Author.Rules.{rules}
use Rattle.stages.proofs.Laws.{closed_star, closed_unstarred, closed_bare}
use Rattle.stages.proofs.Headway.mixed_closed.Goals as goal

pub returns-then-b-eq42 : goal.returns-then-b-eq42
returns-then-b-eq42 c = search (closed_star, rules)

pub returns-then-self : goal.returns-then-self
returns-then-self c = search (closed_unstarred, rules)

pub returns : goal.returns
returns c = search (closed_bare, rules)
