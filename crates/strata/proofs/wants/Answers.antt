use borrow.Author.Rules.{rules}
use Rattle.strata.proofs.Laws.{wants_blank, wants_particle}
use Rattle.strata.proofs.wants.Goals as goal

pub returns-then-blank : goal.returns-then-blank
returns-then-blank c = search (wants_blank, rules)

pub returns : goal.returns
returns c = search (wants_particle, rules)
