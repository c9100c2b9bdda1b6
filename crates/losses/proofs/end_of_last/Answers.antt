use Rattle.losses.proofs.Laws.{none_dropped, last_dropped}
use Rattle.losses.proofs.end_of_last.Goals as goal

-- By the last entry, where there is one.
pub returns-then-report-lt-ENTRY : goal.returns-then-report-lt-ENTRY
returns-then-report-lt-ENTRY c = none_dropped _ c.if-report-lt-ENTRY.true

pub returns : goal.returns
returns c = last_dropped _ _ _ c.if-report-lt-ENTRY.false c.number_at.ensures c.wrapping_add_u64.ensures.value
