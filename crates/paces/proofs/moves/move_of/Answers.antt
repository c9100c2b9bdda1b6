use borrow.Author.Rules.{rules}
use Rattle.paces.proofs.Laws.{move_as_lem, small_after}
use Rattle.paces.proofs.moves.move_of.Goals as goal

pub behind_operand-requires : goal.behind_operand-requires
behind_operand-requires c = small_after _ _ _ c.requires.1 c.in-After.is

pub returns-in-Wants : goal.returns-in-Wants
returns-in-Wants c = search (move_as_lem, rules)

pub returns-in-After : goal.returns-in-After
returns-in-After c = search (move_as_lem, rules)

pub returns-in-Over : goal.returns-in-Over
returns-in-Over c = search (move_as_lem, rules)

pub returns-in-Beginning : goal.returns-in-Beginning
returns-in-Beginning c = search (move_as_lem, rules)

pub returns-in-FirstWord : goal.returns-in-FirstWord
returns-in-FirstWord c = search (move_as_lem, rules)

pub returns-in-Named : goal.returns-in-Named
returns-in-Named c = search (move_as_lem, rules)

pub returns-in-Defined : goal.returns-in-Defined
returns-in-Defined c = search (move_as_lem, rules)

pub returns-in-WantsTag : goal.returns-in-WantsTag
returns-in-WantsTag c = search (move_as_lem, rules)

pub returns-in-Tagged : goal.returns-in-Tagged
returns-in-Tagged c = search (move_as_lem, rules)

pub returns-in-Closed : goal.returns-in-Closed
returns-in-Closed c = search (move_as_lem, rules)

pub returns-in-Complete : goal.returns-in-Complete
returns-in-Complete c = search (move_as_lem, rules)

pub returns-in-OwnFront : goal.returns-in-OwnFront
returns-in-OwnFront c = search (move_as_lem, rules)

pub returns-in-InFront : goal.returns-in-InFront
returns-in-InFront c = search (move_as_lem, rules)

pub returns-in-Behind : goal.returns-in-Behind
returns-in-Behind c = search (move_as_lem, rules)

pub returns-in-OwnBack : goal.returns-in-OwnBack
returns-in-OwnBack c = search (move_as_lem, rules)
