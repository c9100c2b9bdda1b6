use borrow.Author.Rules.{rules}
use Rattle.stages.proofs.Laws.{opening_spelled, opening_whole, opening_other}
use Rattle.stages.proofs.Headway.opening.Goals as goal

pub returns-then-long-lt8 : goal.returns-then-long-lt8
returns-then-long-lt8 c = search (opening_spelled, rules)

pub returns-then-blank : goal.returns-then-blank
returns-then-blank c = search (opening_whole, rules)

pub returns : goal.returns
returns c = search (opening_other, rules)
