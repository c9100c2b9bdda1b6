use borrow.Author.Rules.{rules}
use Rattle.stages.proofs.Laws.{own_longer, own_blank, own_other}
use Rattle.stages.proofs.Headway.own_name.Goals as goal

pub returns-then-name_byte : goal.returns-then-name_byte
returns-then-name_byte c = search (own_longer, rules)

pub returns-then-blank : goal.returns-then-blank
returns-then-blank c = search (own_blank, rules)

pub returns : goal.returns
returns c = search (own_other, rules)
