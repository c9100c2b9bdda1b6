use borrow.Author.Tests.{not-true, not-false}
use native.Mathlib.Omega.{arith}
use mathlib.Core.Path.{refl}
use Rattle.turns.proofs.Laws.{stops_as, told_no, told_yes, entry_at}
use Rattle.turns.specs.Turned.{more_comes, no_entry_at_end, lost_at_end}
use mathlib.Core.Path.{ap}
use mathlib.Core.Bool.{not}
use Rattle.turns.proofs.Stand.ran_out.Goals as goal

-- More is to come, or the stream ends here.
-- Assumes nothing.
pub returns-then-not-g : goal.returns-then-not-g
returns-then-not-g c = more_comes (not-true _ c.if-not-g.true) c.stops.ensures refl

pub returns-then-not-tell : goal.returns-then-not-tell
returns-then-not-tell c = let k = told_no c.tell.ensures (ap not c.if-not-tell.true) in no_entry_at_end (not-false _ c.if-not-g.false) k.0 c.stops-then-not-tell.ensures k.1

pub overflow_add-p : goal.overflow_add-p
overflow_add-p c = let k = told_yes c.tell.ensures (ap not c.if-not-tell.false) in omega (arith, k.0)

pub returns : goal.returns
returns c = let k = told_yes c.tell.ensures (ap not c.if-not-tell.false) in lost_at_end (not-false _ c.if-not-g.false) k.0 (stops_as c.stops-2.ensures c.between-left.ensures) (entry_at _ _ _ _ _ _ k.1 c.byte_before-last.ensures)
