use Rattle.declarations.proofs.Laws.{question_marked, asterisk_marked, plus_marked, no_mark}
use borrow.Author.Rules.{rules}
use Rattle.declarations.proofs.marked.Goals as goal

-- `marked`: each mark by the expression that it becomes. Assumes nothing.
pub returns-then-mark-eq63 : goal.returns-then-mark-eq63
returns-then-mark-eq63 c =
    question_marked _ _ _ _ c.if-mark-eq63.true c.leaf.ensures c.over_two.ensures

pub returns-then-mark-eq42 : goal.returns-then-mark-eq42
returns-then-mark-eq42 c =
    asterisk_marked _ _ _ c.if-mark-eq42.true c.starred.ensures

pub returns-then-mark-eq43 : goal.returns-then-mark-eq43
returns-then-mark-eq43 c =
    plus_marked _ _ _ _ c.if-mark-eq43.true c.starred-then-mark-eq43.ensures c.over_two-then-mark-eq43.ensures

pub returns : goal.returns
returns c =
    no_mark _ _ c.if-mark-eq63.false c.if-mark-eq42.false c.if-mark-eq43.false
