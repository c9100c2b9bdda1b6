use Rattle.sheet.proofs.SheetLaws.{is_sheet}
use Rattle.faults.proofs.Answered.{answer_0, answer_10, answer_8_or_9}
use Rattle.faults.proofs.check_faults.Goals as goal

-- The dry pass gives the ends; each answer is then the law of its number.
pub returns-then-number-eq0 : goal.returns-then-number-eq0
returns-then-number-eq0 c =
    answer_0 (is_sheet c.requires.well_formed).1 c.list_faults-ends.ensures c.fault_number-number.ensures c.if-number-eq0.true

pub returns-then-list-ends : goal.returns-then-list-ends
returns-then-list-ends c =
    answer_10 (is_sheet c.requires.well_formed).1 c.list_faults-ends.ensures c.if-list-ends.true

pub returns : goal.returns
returns c =
    answer_8_or_9 (is_sheet c.requires.well_formed).1 c.list_faults-ends.ensures c.list_faults.ensures c.if-list-ends.false c.fault_number-number.ensures c.if-number-eq0.false
