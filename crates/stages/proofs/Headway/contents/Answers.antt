use borrow.Author.Rules.{rules}
use Rattle.stages.proofs.Laws.{contents_blank, contents_empty, contents_group, contents_other}
use Rattle.stages.proofs.Headway.contents.Goals as goal

pub returns-then-blank : goal.returns-then-blank
returns-then-blank c = search (contents_blank, rules)

pub returns-then-b-eq69 : goal.returns-then-b-eq69
returns-then-b-eq69 c = search (contents_empty, rules)

pub returns-then-b-eq40 : goal.returns-then-b-eq40
returns-then-b-eq40 c = search (contents_group, rules)

pub returns : goal.returns
returns c = search (contents_other, rules)
