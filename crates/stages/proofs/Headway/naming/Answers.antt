use borrow.Author.Rules.{rules}
use Rattle.stages.proofs.Laws.{naming_blank, naming_first, naming_other}
use Rattle.stages.proofs.Headway.naming.Goals as goal

pub returns-then-blank : goal.returns-then-blank
returns-then-blank c = search (naming_blank, rules)

pub returns-then-name_first : goal.returns-then-name_first
returns-then-name_first c = search (naming_first, rules)

pub returns : goal.returns
returns c = search (naming_other, rules)
