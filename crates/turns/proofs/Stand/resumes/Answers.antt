use native.Mathlib.Omega.{arith}
use Rattle.turns.proofs.Laws.{goes_as, told_no, told_yes, entry_at}
use Rattle.turns.specs.Turned.{no_entry_left, resumed}
use mathlib.Core.Path.{ap}
use mathlib.Core.Bool.{not}
use Rattle.turns.proofs.Stand.resumes.Goals as goal

-- The stretch is complete where its entry has room.
-- Assumes nothing.
pub returns-then-not-tell : goal.returns-then-not-tell
returns-then-not-tell c = let k = told_no c.tell.ensures (ap not c.if-not-tell.true) in no_entry_left k.0 c.stops.ensures k.1

pub overflow_add-p : goal.overflow_add-p
overflow_add-p c = let k = told_yes c.tell.ensures (ap not c.if-not-tell.false) in omega (arith, k.0)

pub returns : goal.returns
returns c = let k = told_yes c.tell.ensures (ap not c.if-not-tell.false) in resumed k.0 (goes_as c.goes.ensures c.between-left.ensures) (entry_at _ _ _ _ _ _ k.1 c.byte_before-last.ensures)
