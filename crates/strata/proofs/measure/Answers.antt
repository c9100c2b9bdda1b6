use Rattle.strata.proofs.Sizes.{opening_sized, naming_sized, own_sized, contents_sized, emptying_sized, inside_sized, hashing_sized, mixing_sized, barred_sized, mixed_name_sized, mixed_closed_sized, wants_sized, in_name_sized, marking_sized, after_sized, group_closed_sized, ended_sized}
use borrow.Author.Rules.{rules}
use Rattle.strata.proofs.measure.Goals as goal

-- `measure`: station by station. Assumes nothing.
pub returns-in-Opening : goal.returns-in-Opening
returns-in-Opening c = search (opening_sized, rules)

pub returns-in-Naming : goal.returns-in-Naming
returns-in-Naming c = search (naming_sized, rules)

pub returns-in-Named : goal.returns-in-Named
returns-in-Named c = search (own_sized, rules)

pub returns-in-Contents : goal.returns-in-Contents
returns-in-Contents c = search (contents_sized, rules)

pub returns-in-Emptying : goal.returns-in-Emptying
returns-in-Emptying c = search (emptying_sized, rules)

pub returns-in-Inside : goal.returns-in-Inside
returns-in-Inside c = search (inside_sized, rules)

pub returns-in-Hashing : goal.returns-in-Hashing
returns-in-Hashing c = search (hashing_sized, rules)

pub returns-in-Mixing : goal.returns-in-Mixing
returns-in-Mixing c = search (mixing_sized, rules)

pub returns-in-Barred : goal.returns-in-Barred
returns-in-Barred c = search (barred_sized, rules)

pub returns-in-MixedName : goal.returns-in-MixedName
returns-in-MixedName c = search (mixed_name_sized, rules)

pub returns-in-MixedClosed : goal.returns-in-MixedClosed
returns-in-MixedClosed c = search (mixed_closed_sized, rules)

pub returns-in-Wants : goal.returns-in-Wants
returns-in-Wants c = search (wants_sized, rules)

pub returns-in-InName : goal.returns-in-InName
returns-in-InName c = search (in_name_sized, rules)

pub returns-in-Marking : goal.returns-in-Marking
returns-in-Marking c = search (marking_sized, rules)

pub returns-in-After : goal.returns-in-After
returns-in-After c = search (after_sized, rules)

pub returns-in-GroupClosed : goal.returns-in-GroupClosed
returns-in-GroupClosed c = search (group_closed_sized, rules)

pub returns-in-Ended : goal.returns-in-Ended
returns-in-Ended c = search (ended_sized, rules)
