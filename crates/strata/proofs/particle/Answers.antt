use borrow.Author.Rules.{rules}
use Rattle.strata.proofs.Laws.{particle_first, particle_opens, particle_deep, particle_other}
use Rattle.strata.proofs.particle.Goals as goal

pub returns-then-name_first : goal.returns-then-name_first
returns-then-name_first c = search (particle_first, rules)

pub returns-then-nest : goal.returns-then-nest
returns-then-nest c = search (particle_opens, rules)

pub returns-then-b-eq40 : goal.returns-then-b-eq40
returns-then-b-eq40 c = search (particle_deep, rules)

pub returns : goal.returns
returns c = search (particle_other, rules)
