use borrow.Author.Rules.{rules}
use Rattle.rulings.proofs.Answers.{asks_unbraced, asks_within, asks_outside, as_unbraced}
use Rattle.rulings.proofs.take.Goals as goal

pub unbraced-requires : goal.unbraced-requires
unbraced-requires c = asks_unbraced _ _ c.place_of-w.result c.requires c.place_of-w.ensures c.if-w.true

pub returns-then-kind-eq28 : goal.returns-then-kind-eq28
returns-then-kind-eq28 c = search (as_unbraced, rules)

pub within-requires : goal.within-requires
within-requires c = asks_within _ _ c.place_of-w.result c.requires c.place_of-w.ensures c.if-w.true c.if-kind-eq28.false

pub returns-then-w : goal.returns-then-w
returns-then-w c = search (as_unbraced, rules)

pub outside-requires : goal.outside-requires
outside-requires c = search (asks_outside, rules)

pub returns : goal.returns
returns c = search (as_unbraced, rules)
