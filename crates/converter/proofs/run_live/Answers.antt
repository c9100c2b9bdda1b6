use mathlib.Core.Path.{refl, ◌∙◌}
use mathlib.Core.Bool.{not}
use Prim.Native.Nat.{◌-◌}
use native.Mathlib.Omega.{arith}
use borrow.Author.Rules.{rules}
use Rattle.calls.proofs.Read.{read_moves}
use Rattle.live.proofs.Stacks.{full_same}
use Rattle.steps.specs.Seen.{whole}
use Rattle.converter.specs.Inner.{seen}
use Rattle.converter.proofs.Going.{begins, goes_on, goes_far, at_run, event_in, refused_few, ends_at_token, without_few, ends_without, bound, stops_seen, ran_live}
use Rattle.converter.proofs.run_live.Goals as goal

pub loop-event-init : goal.loop-event-init
loop-event-init c =
    (refl, begins c.args.part.now (not c.args.ended) c.args.out.now c.requires.may_run)

pub stop-requires : goal.stop-requires
stop-requires c =
    let g = c.loop-event.invariant.1 in
    without_few c.args.ended g c.read_on-answer.result c.number_without_token-number.result c.read_on-answer.ensures c.in_default.not-Token
    (c.number_without_token-number.ensures c.loop-event.stack g.shaped)

pub shape_of-stack-in_default : goal.shape_of-stack-in_default
shape_of-stack-in_default c = c.loop-event.invariant.0

pub shape_of-out-in_default : goal.shape_of-out-in_default
shape_of-out-in_default c = c.loop-event.invariant.1.long

pub returns-in_default : goal.returns-in_default
returns-in_default c =
    let g = c.loop-event.invariant.1 in
    let b = c.loop-event.stack in
    ran_live c.stop.ensures b g.shaped.deep
    (ends_without c.args.ended g c.read_on-answer.result c.number_without_token-number.result c.read_on-answer.ensures c.in_default.not-Token
    (c.number_without_token-number.ensures b g.shaped) (seen c.stop.result b) (stops_seen c.stop.ensures b _ refl))

pub take-stepped-requires : goal.take-stepped-requires
take-stepped-requires c =
    let g = c.loop-event.invariant.1 in
    record {
      laid_out = c.requires.laid_out;
      ready_at = record {
        ready = record { sheet = g.given.sheet; is_sheet = g.given.is_sheet; passed = g.given.passed; shaped = g.shaped; fits = g.fits };
        long = omega (arith, c.requires.stack_width_in_bounds, c.loop-event.invariant.0);
      };
      event_in = event_in (not c.args.ended) c.args.part.now c.loop-event.at c.in-Token.event c.in-Token.next.at (bound (not c.args.ended) c.args.part.now c.loop-event.at c.read_on-answer.result c.in-Token.event c.in-Token.next c.read_on-answer.ensures c.in-Token.is);
      at_in_bounds = omega (arith, g.room, g.long);
      count_le_most_visits = g.count;
    }

pub stop-requires-then-stepped-ne0 : goal.stop-requires-then-stepped-ne0
stop-requires-then-stepped-ne0 c =
    let b = c.take-stepped.new.stack in
    refused_few c.args.ended c.loop-event.invariant.1 c.in-Token.event c.in-Token.next.at (bound (not c.args.ended) c.args.part.now c.loop-event.at c.read_on-answer.result c.in-Token.event c.in-Token.next c.read_on-answer.ensures c.in-Token.is)
    (whole c.take-stepped.result b) c.take-stepped.new.out c.take-stepped.ensures.stepped c.if-stepped-ne0.true

pub shape_of-stack-then-stepped-ne0 : goal.shape_of-stack-then-stepped-ne0
shape_of-stack-then-stepped-ne0 c = c.take-stepped.ensures.long ∙ c.loop-event.invariant.0

pub shape_of-out-then-stepped-ne0 : goal.shape_of-out-then-stepped-ne0
shape_of-out-then-stepped-ne0 c = c.take-stepped.auto.out ∙ c.loop-event.invariant.1.long

pub returns-then-stepped-ne0 : goal.returns-then-stepped-ne0
returns-then-stepped-ne0 c =
    let g = c.loop-event.invariant.1 in
    let b = c.take-stepped.new.stack in
    ran_live c.stop-then-stepped-ne0.ensures b g.shaped.deep
    (ends_at_token c.args.ended g c.in-Token.event c.in-Token.next.at (bound (not c.args.ended) c.args.part.now c.loop-event.at c.read_on-answer.result c.in-Token.event c.in-Token.next c.read_on-answer.ensures c.in-Token.is)
    (whole c.take-stepped.result b) c.take-stepped.new.out c.take-stepped.ensures.stepped c.if-stepped-ne0.true
    (seen c.stop-then-stepped-ne0.result b) (stops_seen c.stop-then-stepped-ne0.ensures b _ (full_same c.loop-event.run.live c.loop-event.stack b c.take-stepped.ensures.below)))

pub onward-far-requires : goal.onward-far-requires
onward-far-requires c =
    let b = c.take-stepped.new.stack in
    let g = goes_on c.loop-event.invariant.1 c.in-Token.event c.in-Token.next.at (bound (not c.args.ended) c.args.part.now c.loop-event.at c.read_on-answer.result c.in-Token.event c.in-Token.next c.read_on-answer.ensures c.in-Token.is)
    (whole c.take-stepped.result b) c.take-stepped.new.out c.take-stepped.ensures.stepped c.if-stepped-ne0.false in record {
      laid_out = c.requires.laid_out;
      ready_at = record {
        ready = record { sheet = g.given.sheet; is_sheet = g.given.is_sheet; passed = g.given.passed; shaped = g.shaped; fits = g.fits };
        long = omega (arith, c.requires.stack_width_in_bounds, c.loop-event.invariant.0, c.take-stepped.ensures.long);
      };
      from_in_bounds = g.within;
      at_in_bounds = omega (arith, g.room, g.long);
      count_le_most_visits = g.count;
    }

pub loop-event-smaller : goal.loop-event-smaller
loop-event-smaller c =
    omega (
      arith,
      read_moves (not c.args.ended) c.args.part.now c.loop-event.at c.in-Token.event c.in-Token.next.at
          (bound (not c.args.ended) c.args.part.now c.loop-event.at c.read_on-answer.result c.in-Token.event c.in-Token.next c.read_on-answer.ensures c.in-Token.is) c.loop-event.invariant.1.within,
      c.onward-far.ensures.forward,
      c.onward-far.ensures.within,
    )

pub loop-event-preserved : goal.loop-event-preserved
loop-event-preserved c =
    let b = c.take-stepped.new.stack in (
      c.take-stepped.ensures.long ∙ c.loop-event.invariant.0,
      at_run b c.behind-run.ensures
          (goes_far
          (goes_on c.loop-event.invariant.1 c.in-Token.event c.in-Token.next.at (bound (not c.args.ended) c.args.part.now c.loop-event.at c.read_on-answer.result c.in-Token.event c.in-Token.next c.read_on-answer.ensures c.in-Token.is)
          (whole c.take-stepped.result b) c.take-stepped.new.out c.take-stepped.ensures.stepped c.if-stepped-ne0.false)
          c.onward-far.result _ c.onward-far.ensures),
    )
