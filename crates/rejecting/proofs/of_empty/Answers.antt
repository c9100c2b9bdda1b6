use mathlib.Core.Path.{subst}
use native.Mathlib.Omega.{arith}
use Rattle.live.proofs.Stacks.{full_same}
use Rattle.state.specs.declared.State.{State}
use Rattle.steps.proofs.Takings.{ready_still}
use Rattle.steps.proofs.Tokens.{ready_on, cut_name}
use Rattle.rejecting.specs.Told.{StartTold}
use Rattle.rejecting.proofs.Tokens.{empty_first, empty_second}
use Rattle.rejecting.proofs.of_empty.Goals as goal

-- The start is not taken, and leaves what the state reads of the stack; or the end sets out from where the start came to.
pub start-begun-requires : goal.start-begun-requires
start-begun-requires c =
    record { laid_out = c.requires.laid_out; ready_at = c.requires.ready_at; at_bound = omega arith; count_bound = omega (arith, c.requires.count_le_most_visits) }

pub of_start-requires : goal.of_start-requires
of_start-requires c =
    let u = c.start-begun in
    let b = u.new.stack in
    record { laid_out = c.requires.laid_out; ready_at = ready_still (full_same c.args.z c.args.stack.now b u.ensures.below) u.ensures.long c.requires.ready_at; count_bound = omega (arith, c.requires.count_le_most_visits) }

pub returns-then-begun-ne0 : goal.returns-then-begun-ne0
returns-then-begun-ne0 c =
    let a = c.args in
    let u = c.start-begun in
    let t = c.tag_named-t in
    let b = u.new.stack in
    empty_first a.part.now a.from a.len (cut_name a.part.now a.from a.len) t.ensures u.ensures.stepped c.if-begun-ne0.true
    (subst (λ (y : State). StartTold a.s.now t.result y c.of_start.result) (full_same a.z a.stack.now b u.ensures.below) c.of_start.ensures)

pub of_event-requires : goal.of_event-requires
of_event-requires c =
    let u = c.start-begun in
    record { laid_out = c.requires.laid_out; ready_at = record { ready = ready_on u.ensures.stepped c.requires.ready_at.ready tt c.if-begun-ne0.false; long = omega (arith, c.requires.ready_at.long, u.ensures.long) }; count_bound = omega (arith, c.requires.count_le_most_visits, u.ensures.stepped.count) }

pub returns : goal.returns
returns c =
    let a = c.args in
    let u = c.start-begun in
    let t = c.tag_named-t in
    empty_second a.part.now a.from a.len (cut_name a.part.now a.from a.len) t.ensures u.ensures.stepped c.if-begun-ne0.false c.of_event.ensures
