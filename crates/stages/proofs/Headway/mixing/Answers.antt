use borrow.Author.Rules.{rules}
use Rattle.stages.proofs.Laws.{mixing_blank, mixing_bar, mixing_closes, mixing_other}
use Rattle.stages.proofs.Headway.mixing.Goals as goal

pub returns-then-blank : goal.returns-then-blank
returns-then-blank c = search (mixing_blank, rules)

pub returns-then-b-eq124 : goal.returns-then-b-eq124
returns-then-b-eq124 c = search (mixing_bar, rules)

pub returns-then-b-eq41 : goal.returns-then-b-eq41
returns-then-b-eq41 c = search (mixing_closes, rules)

pub returns : goal.returns
returns c = search (mixing_other, rules)
