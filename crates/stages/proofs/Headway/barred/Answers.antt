use borrow.Author.Rules.{rules}
use Rattle.stages.proofs.Laws.{barred_blank, barred_first, barred_other}
use Rattle.stages.proofs.Headway.barred.Goals as goal

pub returns-then-blank : goal.returns-then-blank
returns-then-blank c = search (barred_blank, rules)

pub returns-then-name_first : goal.returns-then-name_first
returns-then-name_first c = search (barred_first, rules)

pub returns : goal.returns
returns c = search (barred_other, rules)
