use borrow.Author.Rules.{rules}
use Rattle.strata.proofs.Laws.{inside_blank, inside_hash, inside_particle}
use Rattle.strata.proofs.inside.Goals as goal

pub returns-then-blank : goal.returns-then-blank
returns-then-blank c = search (inside_blank, rules)

pub returns-then-b-eq35 : goal.returns-then-b-eq35
returns-then-b-eq35 c = search (inside_hash, rules)

pub returns : goal.returns
returns c = search (inside_particle, rules)
