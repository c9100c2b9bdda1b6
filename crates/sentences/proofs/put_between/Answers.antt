use Rattle.output.proofs.Writing.{same_bytes}
use Rattle.printed.specs.Programs.{between_statements}
use Rattle.sentences.specs.Sentences.{preceding_at}
use Rattle.sentences.proofs.Laws.{first_item, first_other, next_other, next_print, next_item}
use Rattle.sentences.proofs.put_between.Goals as goal

-- Each return cites what is written before the statement.
pub returns-then-item : goal.returns-then-item
returns-then-item c = let a = c.args in same_bytes _ _ _ _ (between_statements (preceding_at a.preceding) a.item) _ _ (first_item a.preceding a.item c.if-preceding-eq0.true c.if-item.true) c.put_bytes.ensures

pub returns-then-preceding-eq0 : goal.returns-then-preceding-eq0
returns-then-preceding-eq0 c = let a = c.args in same_bytes _ _ _ _ (between_statements (preceding_at a.preceding) a.item) _ _ (first_other a.preceding a.item c.if-preceding-eq0.true c.if-item.false) c.put_bytes-then-preceding-eq0.ensures

pub returns-then-preceding-eq1 : goal.returns-then-preceding-eq1
returns-then-preceding-eq1 c = let a = c.args in same_bytes _ _ _ _ (between_statements (preceding_at a.preceding) a.item) _ _ (next_print a.preceding a.item c.if-preceding-eq1.true c.if-item-2.true) c.put_bytes-then-preceding-eq1.ensures

pub returns-then-item-2 : goal.returns-then-item-2
returns-then-item-2 c = let a = c.args in same_bytes _ _ _ _ (between_statements (preceding_at a.preceding) a.item) _ _ (next_item a.preceding a.item c.if-preceding-eq0.false c.if-preceding-eq1.false c.if-item-2.true) c.put_bytes-then-item-2.ensures

pub returns : goal.returns
returns c = let a = c.args in same_bytes _ _ _ _ (between_statements (preceding_at a.preceding) a.item) _ _ (next_other a.preceding a.item c.if-preceding-eq0.false c.if-item-2.false) c.put_bytes-2.ensures
