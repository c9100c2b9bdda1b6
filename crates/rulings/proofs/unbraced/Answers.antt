use borrow.Author.Rules.{rules}
use Rattle.rulings.proofs.Answers.{unbraced_takes, unbraced_refuses}
use Rattle.rulings.proofs.unbraced.Goals as goal

pub returns-then-ends : goal.returns-then-ends
returns-then-ends c = search (unbraced_takes, rules)

pub returns : goal.returns
returns c = search (unbraced_refuses, rules)
