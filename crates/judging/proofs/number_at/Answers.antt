use borrow.Author.Rules.{rules}
use Rattle.judging.proofs.Marks.{number_50, number_51, number_52, number_55}
use Rattle.judging.proofs.number_at.Goals as goal

-- The three tests, one behind the other.
pub returns-then-any_at : goal.returns-then-any_at
returns-then-any_at c = number_50 _ _ _ _ c.any_at.ensures c.if-any_at.true

pub returns-then-entity_at : goal.returns-then-entity_at
returns-then-entity_at c = number_51 _ _ _ _ c.entity_at.ensures c.if-entity_at.true

pub returns-then-attlist_at : goal.returns-then-attlist_at
returns-then-attlist_at c = number_52 _ _ _ _ c.attlist_at.ensures c.if-attlist_at.true

pub returns : goal.returns
returns c = number_55 _ _ _ _ _ _ c.any_at.ensures c.if-any_at.false c.entity_at.ensures c.if-entity_at.false c.attlist_at.ensures c.if-attlist_at.false
