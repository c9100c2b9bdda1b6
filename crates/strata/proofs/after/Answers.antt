use borrow.Author.Rules.{rules}
use Rattle.strata.proofs.Laws.{after_blank, after_comma, after_bar, after_closes, after_other}
use Rattle.strata.proofs.after.Goals as goal

pub returns-then-blank : goal.returns-then-blank
returns-then-blank c = search (after_blank, rules)

pub returns-then-b-eq44 : goal.returns-then-b-eq44
returns-then-b-eq44 c = search (after_comma, rules)

pub returns-then-b-eq124 : goal.returns-then-b-eq124
returns-then-b-eq124 c = search (after_bar, rules)

pub returns-then-b-eq41 : goal.returns-then-b-eq41
returns-then-b-eq41 c = search (after_closes, rules)

pub returns : goal.returns
returns c = search (after_other, rules)
