use mathlib.Core.Path.{refl, subst}
use native.Mathlib.Omega.{arith}
use Rattle.live.proofs.Stacks.{full_same}
use Rattle.state.specs.declared.State.{State}
use Rattle.steps.proofs.Takings.{ready_still}
use Rattle.rejecting.specs.Told.{TokenTold}
use Rattle.rejecting.proofs.Tokens.{not_rejected, is_rejected}
use Rattle.rejecting.proofs.of_refused.Goals as goal

-- The token is taken into no room first. What the state reads of the stack is then as it was.
pub take-taken-requires : goal.take-taken-requires
take-taken-requires c =
    record { laid_out = c.requires.laid_out; ready_at = c.requires.ready_at; event_in = c.requires.event_in; at_in_bounds = omega arith; count_le_most_visits = c.requires.count_le_most_visits }

pub returns-then-taken-ne-REJECTS : goal.returns-then-taken-ne-REJECTS
returns-then-taken-ne-REJECTS c =
    not_rejected c.requires.ready_at.ready c.take-taken.ensures.stepped c.if-taken-ne-REJECTS.true refl

pub of_token-requires : goal.of_token-requires
of_token-requires c =
    let u = c.take-taken in
    let b = u.new.stack in
    record { laid_out = c.requires.laid_out; ready_at = ready_still (full_same c.args.z c.args.stack.now b u.ensures.below) u.ensures.long c.requires.ready_at; event_in = c.requires.event_in; count_le_most_visits = c.requires.count_le_most_visits }

pub returns : goal.returns
returns c =
    let a = c.args in
    let u = c.take-taken in
    let b = u.new.stack in
    let t = c.of_token in
    is_rejected c.requires.ready_at.ready u.ensures.stepped c.if-taken-ne-REJECTS.false
    (subst (λ (y : State). TokenTold a.s.now a.part.now a.e y t.result) (full_same a.z a.stack.now b u.ensures.below) t.ensures)
