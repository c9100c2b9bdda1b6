use borrow.Author.Rules.{rules}
use Rattle.strata.proofs.Laws.{plain_step, name_step}
use Rattle.strata.proofs.step.Goals as goal

pub returns-in-Opening : goal.returns-in-Opening
returns-in-Opening c = search (plain_step, rules)

pub returns-in-Naming : goal.returns-in-Naming
returns-in-Naming c = search (plain_step, rules)

pub returns-in-Named : goal.returns-in-Named
returns-in-Named c = search (plain_step, rules)

pub returns-in-Contents : goal.returns-in-Contents
returns-in-Contents c = search (plain_step, rules)

pub returns-in-Emptying : goal.returns-in-Emptying
returns-in-Emptying c = search (plain_step, rules)

pub returns-in-Inside : goal.returns-in-Inside
returns-in-Inside c = search (plain_step, rules)

pub returns-in-Hashing : goal.returns-in-Hashing
returns-in-Hashing c = search (plain_step, rules)

pub returns-in-Mixing : goal.returns-in-Mixing
returns-in-Mixing c = search (plain_step, rules)

pub returns-in-Barred : goal.returns-in-Barred
returns-in-Barred c = search (plain_step, rules)

pub returns-in-MixedName : goal.returns-in-MixedName
returns-in-MixedName c = search (name_step, rules)

pub returns-in-MixedClosed : goal.returns-in-MixedClosed
returns-in-MixedClosed c = search (plain_step, rules)

pub returns-in-Wants : goal.returns-in-Wants
returns-in-Wants c = search (plain_step, rules)

pub returns-in-InName : goal.returns-in-InName
returns-in-InName c = search (name_step, rules)

pub returns-in-Marking : goal.returns-in-Marking
returns-in-Marking c = search (plain_step, rules)

pub returns-in-After : goal.returns-in-After
returns-in-After c = search (plain_step, rules)

pub returns-in-GroupClosed : goal.returns-in-GroupClosed
returns-in-GroupClosed c = search (plain_step, rules)

pub returns-in-Ended : goal.returns-in-Ended
returns-in-Ended c = search (plain_step, rules)
