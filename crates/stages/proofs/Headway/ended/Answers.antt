use borrow.Author.Rules.{rules}
use Rattle.stages.proofs.Laws.{ended_blank, ended_over, ended_other}
use Rattle.stages.proofs.Headway.ended.Goals as goal

pub returns-then-blank : goal.returns-then-blank
returns-then-blank c = search (ended_blank, rules)

pub returns-then-b-eq62 : goal.returns-then-b-eq62
returns-then-b-eq62 c = search (ended_over, rules)

pub returns : goal.returns
returns c = search (ended_other, rules)
