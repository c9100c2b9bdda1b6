use borrow.Author.Tests.{not-true, not-false}
use mathlib.Core.Path.{refl, ap, ◌∙◌}
use Prim.Native.Nat.{ℕ}
use borrow.Author.Rules.{rules}
use Rattle.strides.proofs.Strides.{strode}
use Rattle.rescuer.proofs.Going.{begins, goes_on, stops_here, at_most}
use Rattle.rescuer.proofs.run_steps.Goals as goal

pub loop-l-init : goal.loop-l-init
loop-l-init c = (refl, c.requires.ready.grounds, begins c.args.stand c.args.stack.now c.args.out.now c.args.area.now c.args.report.now c.requires.ready.on)

pub turn-turn-requires : goal.turn-turn-requires
turn-turn-requires c = let i = c.loop-l.invariant in record { laid_out = c.requires.laid_out; ready = record { grounds = i.1; on = i.2.ready } }

pub shape_of-stack-then-not-turn : goal.shape_of-stack-then-not-turn
shape_of-stack-then-not-turn c = c.turn-turn.auto.stack ∙ c.loop-l.invariant.0

pub shape_of-out-then-not-turn : goal.shape_of-out-then-not-turn
shape_of-out-then-not-turn c = c.turn-turn.auto.out ∙ c.loop-l.invariant.2.out_long

pub shape_of-area-then-not-turn : goal.shape_of-area-then-not-turn
shape_of-area-then-not-turn c = c.turn-turn.auto.area ∙ c.loop-l.invariant.2.area_long

pub shape_of-report-then-not-turn : goal.shape_of-report-then-not-turn
shape_of-report-then-not-turn c = c.turn-turn.auto.report ∙ c.loop-l.invariant.2.report_long

pub returns-then-not-turn : goal.returns-then-not-turn
returns-then-not-turn c = let i = c.loop-l.invariant in record { grounds = i.1; ran = stops_here i.2 (strode i.1 c.loop-l.report i.2.ready i.2.told_in_lem c.args.start.now c.args.end.now (c.requires.resumption_is.start_is i.1) (c.requires.resumption_is.end_is i.1) c.turn-turn.new.stack c.turn-turn.new.out c.turn-turn.new.area c.turn-turn.new.report c.turn-turn.result c.turn-turn.ensures) (not-true _ c.if-not-turn.true) _ (ap (λ (n : ℕ). record { number = c.turn-turn.result.number; place = c.turn-turn.result.place; deep = n; stand = c.turn-turn.result.stand }) c.most_of-most.ensures) }

pub loop-l-smaller : goal.loop-l-smaller
loop-l-smaller c = let i = c.loop-l.invariant in (strode i.1 c.loop-l.report i.2.ready i.2.told_in_lem c.args.start.now c.args.end.now (c.requires.resumption_is.start_is i.1) (c.requires.resumption_is.end_is i.1) c.turn-turn.new.stack c.turn-turn.new.out c.turn-turn.new.area c.turn-turn.new.report c.turn-turn.result c.turn-turn.ensures).less (not-false _ c.if-not-turn.false)

pub loop-l-preserved : goal.loop-l-preserved
loop-l-preserved c = let i = c.loop-l.invariant in (c.turn-turn.auto.stack ∙ i.0, i.1, at_most c.most_of-most.ensures (goes_on i.2 (strode i.1 c.loop-l.report i.2.ready i.2.told_in_lem c.args.start.now c.args.end.now (c.requires.resumption_is.start_is i.1) (c.requires.resumption_is.end_is i.1) c.turn-turn.new.stack c.turn-turn.new.out c.turn-turn.new.area c.turn-turn.new.report c.turn-turn.result c.turn-turn.ensures) (not-false _ c.if-not-turn.false)))
