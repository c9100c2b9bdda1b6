use borrow.Author.Rules.{rules}
use native.Mathlib.Omega.{arith}
use Rattle.judging.proofs.Marks.{percent_there, ampersand_there, entity_there, too_early_for_entity, no_entity_past}
use Rattle.judging.proofs.entity_at.Goals as goal

-- % and & are looked for here, <!ENTITY three bytes in front of its N.
pub returns-then-b-eq37 : goal.returns-then-b-eq37
returns-then-b-eq37 c = let a = c.args in percent_there a.text.now a.at c.if-at-text.true c.if-b-eq37.true

pub returns-then-b-eq38 : goal.returns-then-b-eq38
returns-then-b-eq38 c = let a = c.args in ampersand_there a.text.now a.at c.if-at-text.true c.if-b-eq38.true

pub returns-then-at-ge3 : goal.returns-then-at-ge3
returns-then-at-ge3 c =
    let a = c.args in
    entity_there a.text.now a.at c.if-at-text.true c.word_stands.result c.if-b-eq37.false c.if-b-eq38.false c.if-at-ge3.true c.word_stands.ensures

pub returns-then-at-text : goal.returns-then-at-text
returns-then-at-text c = let a = c.args in too_early_for_entity a.text.now a.at c.if-at-text.true c.if-b-eq37.false c.if-b-eq38.false (λ h. omega (arith, h, c.if-at-ge3.false))

pub returns : goal.returns
returns c = let a = c.args in no_entity_past a.text.now a.at (λ h. omega (arith, h, c.if-at-text.false))
