use borrow.Author.Rules.{rules}
use Rattle.stages.proofs.Stations.{in_a_name, own_name_lem, inner_name_lem, inner_mixed_name, no_name}
use Rattle.stages.proofs.Headway.name_end.Goals as goal

pub returns-then-name_byte : goal.returns-then-name_byte
returns-then-name_byte c = search (in_a_name, own_name_lem, inner_name_lem, inner_mixed_name, no_name, rules)

pub returns-in-Named : goal.returns-in-Named
returns-in-Named c = search (in_a_name, own_name_lem, inner_name_lem, inner_mixed_name, no_name, rules)

pub returns-in-MixedName : goal.returns-in-MixedName
returns-in-MixedName c = search (in_a_name, own_name_lem, inner_name_lem, inner_mixed_name, no_name, rules)

pub returns-in-InName : goal.returns-in-InName
returns-in-InName c = search (in_a_name, own_name_lem, inner_name_lem, inner_mixed_name, no_name, rules)

pub returns-in-Opening : goal.returns-in-Opening
returns-in-Opening c = search (in_a_name, own_name_lem, inner_name_lem, inner_mixed_name, no_name, rules)

pub returns-in-Naming : goal.returns-in-Naming
returns-in-Naming c = search (in_a_name, own_name_lem, inner_name_lem, inner_mixed_name, no_name, rules)

pub returns-in-Contents : goal.returns-in-Contents
returns-in-Contents c = search (in_a_name, own_name_lem, inner_name_lem, inner_mixed_name, no_name, rules)

pub returns-in-Emptying : goal.returns-in-Emptying
returns-in-Emptying c = search (in_a_name, own_name_lem, inner_name_lem, inner_mixed_name, no_name, rules)

pub returns-in-Inside : goal.returns-in-Inside
returns-in-Inside c = search (in_a_name, own_name_lem, inner_name_lem, inner_mixed_name, no_name, rules)

pub returns-in-Hashing : goal.returns-in-Hashing
returns-in-Hashing c = search (in_a_name, own_name_lem, inner_name_lem, inner_mixed_name, no_name, rules)

pub returns-in-Mixing : goal.returns-in-Mixing
returns-in-Mixing c = search (in_a_name, own_name_lem, inner_name_lem, inner_mixed_name, no_name, rules)

pub returns-in-Barred : goal.returns-in-Barred
returns-in-Barred c = search (in_a_name, own_name_lem, inner_name_lem, inner_mixed_name, no_name, rules)

pub returns-in-MixedClosed : goal.returns-in-MixedClosed
returns-in-MixedClosed c = search (in_a_name, own_name_lem, inner_name_lem, inner_mixed_name, no_name, rules)

pub returns-in-Wants : goal.returns-in-Wants
returns-in-Wants c = search (in_a_name, own_name_lem, inner_name_lem, inner_mixed_name, no_name, rules)

pub returns-in-Marking : goal.returns-in-Marking
returns-in-Marking c = search (in_a_name, own_name_lem, inner_name_lem, inner_mixed_name, no_name, rules)

pub returns-in-After : goal.returns-in-After
returns-in-After c = search (in_a_name, own_name_lem, inner_name_lem, inner_mixed_name, no_name, rules)

pub returns-in-GroupClosed : goal.returns-in-GroupClosed
returns-in-GroupClosed c = search (in_a_name, own_name_lem, inner_name_lem, inner_mixed_name, no_name, rules)

pub returns-in-Ended : goal.returns-in-Ended
returns-in-Ended c = search (in_a_name, own_name_lem, inner_name_lem, inner_mixed_name, no_name, rules)
