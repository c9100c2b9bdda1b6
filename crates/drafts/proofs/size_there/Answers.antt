use borrow.Author.Rules.{rules}
use Rattle.drafts.proofs.Laws.{size_empty, asks_open, size_open, asks_held, asks_wants, asks_front, asks_operand, asks_after, asks_behind, asks_over, size_wants, size_front, size_after, size_behind, size_over, size_told}
use Rattle.drafts.proofs.size_there.Goals as goal

pub returns-then-unclosed-eq0 : goal.returns-then-unclosed-eq0
returns-then-unclosed-eq0 c = search (size_empty, rules)

pub size_with-requires : goal.size_with-requires
size_with-requires c = asks_open _ _ _ c.requires c.in-Wants.is

pub returns-then-b : goal.returns-then-b
returns-then-b c = search (size_open, rules)

pub held-requires : goal.held-requires
held-requires c = asks_held _ _ _ c.requires c.in-Wants.is

pub size_with-requires-in-Wants : goal.size_with-requires-in-Wants
size_with-requires-in-Wants c = asks_wants _ _ _ _ c.requires c.in-Wants.is c.held.ensures

pub size_with-requires-in-InFront : goal.size_with-requires-in-InFront
size_with-requires-in-InFront c = asks_front _ _ c.requires c.in-InFront.is

pub held-requires-in-After : goal.held-requires-in-After
held-requires-in-After c = asks_operand _ _ _ c.requires c.in-After.is

pub size_with-requires-in-After : goal.size_with-requires-in-After
size_with-requires-in-After c = asks_after _ _ _ _ c.requires c.in-After.is c.held-in-After.ensures

pub size_with-requires-in-Behind : goal.size_with-requires-in-Behind
size_with-requires-in-Behind c = asks_behind _ _ _ c.requires c.in-Behind.is

pub size_with-requires-in-Over : goal.size_with-requires-in-Over
size_with-requires-in-Over c = asks_over _ _ _ c.requires c.in-Over.is

pub returns-else-b : goal.returns-else-b
returns-else-b c = search (size_wants, rules)

pub returns-in-InFront : goal.returns-in-InFront
returns-in-InFront c = search (size_front, rules)

pub returns-in-After : goal.returns-in-After
returns-in-After c = search (size_after, rules)

pub returns-in-Behind : goal.returns-in-Behind
returns-in-Behind c = search (size_behind, rules)

pub returns-in-Over : goal.returns-in-Over
returns-in-Over c = search (size_over, rules)

pub returns-in-Closed : goal.returns-in-Closed
returns-in-Closed c = search (size_told, rules)

pub returns-in-OwnBack : goal.returns-in-OwnBack
returns-in-OwnBack c = search (size_told, rules)

pub returns-in-Complete : goal.returns-in-Complete
returns-in-Complete c = search (size_told, rules)

pub returns-in-Beginning : goal.returns-in-Beginning
returns-in-Beginning c = search (size_told, rules)

pub returns-in-FirstWord : goal.returns-in-FirstWord
returns-in-FirstWord c = search (size_told, rules)

pub returns-in-Named : goal.returns-in-Named
returns-in-Named c = search (size_told, rules)

pub returns-in-Defined : goal.returns-in-Defined
returns-in-Defined c = search (size_told, rules)

pub returns-in-OwnFront : goal.returns-in-OwnFront
returns-in-OwnFront c = search (size_told, rules)

pub returns-in-WantsTag : goal.returns-in-WantsTag
returns-in-WantsTag c = search (size_told, rules)

pub returns-in-Tagged : goal.returns-in-Tagged
returns-in-Tagged c = search (size_told, rules)
