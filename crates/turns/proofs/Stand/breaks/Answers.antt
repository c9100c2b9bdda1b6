use native.Mathlib.Omega.{arith}
use mathlib.Core.Path.{refl, ap, ◌∙◌}
use Prim.Native.Nat.{ℕ, ◌-◌}
use Rattle.turns.proofs.Laws.{goes_as, stops_as, told_no, told_yes, entry_at, open_16, open_17, closed_by, no_stretch, some_stretch}
use Rattle.turns.specs.Turned.{stays, drops, drops_first, nothing_lost, no_space, closes}
use mathlib.Core.Bool.{not}
use Rattle.turns.proofs.Stand.breaks.Goals as goal

-- By the number: left as it is, passed over, or closed.
-- Assumes nothing.
pub returns-then-number-eq16 : goal.returns-then-number-eq16
returns-then-number-eq16 c = stays (open_16 c.args.number c.if-number-eq16.true) c.stops.ensures refl

pub returns-then-number-eq17 : goal.returns-then-number-eq17
returns-then-number-eq17 c = stays (open_17 c.args.number c.if-number-eq16.false c.if-number-eq17.true) c.stops-then-number-eq17.ensures refl

pub returns-then-first-base : goal.returns-then-first-base
returns-then-first-base c = drops (closed_by c.args.number c.if-number-eq16.false c.if-number-eq17.false) c.if-number.true c.if-first-base.true (goes_as c.goes.ensures c.skipping-skips.ensures) refl

pub returns-then-number : goal.returns-then-number
returns-then-number c = drops_first (closed_by c.args.number c.if-number-eq16.false c.if-number-eq17.false) c.if-number.true c.if-first-base.false (goes_as c.goes-then-number.ensures c.skipping-skips.ensures) refl

pub returns-then-number-base : goal.returns-then-number-base
returns-then-number-base c = let k = no_stretch c.args.number _ _ c.if-number-base.true in nothing_lost (closed_by c.args.number c.if-number-eq16.false c.if-number-eq17.false) c.if-number.false k.0 k.1 (stops_as c.stops-then-number-base.ensures c.between-left.ensures) refl

pub returns-then-not-tell : goal.returns-then-not-tell
returns-then-not-tell c = let k = told_no c.tell.ensures (ap not c.if-not-tell.true) in no_space (closed_by c.args.number c.if-number-eq16.false c.if-number-eq17.false) c.if-number.false (some_stretch c.args.number _ _ c.if-number-base.false) k.0 c.stops-then-not-tell.ensures k.1

pub overflow_add-p-2 : goal.overflow_add-p-2
overflow_add-p-2 c = let k = told_yes c.tell.ensures (ap not c.if-not-tell.false) in omega (arith, k.0)

pub returns : goal.returns
returns c = let k = told_yes c.tell.ensures (ap not c.if-not-tell.false) in closes (closed_by c.args.number c.if-number-eq16.false c.if-number-eq17.false) c.if-number.false (some_stretch c.args.number _ _ c.if-number-base.false) k.0 (stops_as c.stops-2.ensures c.between-left.ensures) (entry_at _ _ _ _ _ _ k.1 (c.byte_before-last.ensures ∙ ap (λ (i : ℕ). i - 1) c.stretch_end.ensures))
