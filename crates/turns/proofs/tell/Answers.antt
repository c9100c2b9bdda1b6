use mathlib.Core.Path.{refl}
use Rattle.turns.proofs.Laws.{told_entry}
use Rattle.turns.specs.Turned.{no_entry, entry}
use Rattle.turns.proofs.tell.Goals as goal

-- Three numbers one after another are an entry.
-- Assumes nothing.
pub returns-then-report-told : goal.returns-then-report-told
returns-then-report-told c = no_entry c.if-report-told.true refl

pub returns : goal.returns
returns c = entry c.if-report-told.false (told_entry _ _ _ _ _ _ _ _ _ _ _ c.put_number-second.ensures c.put_number-third.ensures c.put_number.ensures)
