use native.Mathlib.Omega.{arith}
use mathlib.Core.Path.{ap, sym, subst, ◌∙◌}
use Rattle.state.specs.Changes.{Restored, with_env}
use Rattle.state.specs.declared.State.{State}
use Rattle.live.specs.Live.{full}
use Rattle.live.specs.declared.Live.{Live}
use Rattle.live.proofs.Stacks.{full_restored}
use Rattle.std.specs.Prelude.{Option as Taken}
use Rattle.acts.specs.declared.Acted.{Acted}
use Rattle.acts.specs.Seen.{seen_if}
use Rattle.acts.specs.Acted.{LeavesAs}
use Rattle.acts.proofs.Acting.{visited_again, leave_rejected, left}
use Rattle.acts.proofs.leave.Goals as goal

-- The set taken off, the second visit with its values; rejected, or then the echo, the return of echo and the pop.
pub visit-requires : goal.visit-requires
visit-requires c =
    record { laid_out = c.requires.laid_out; q_lt_productions = c.requires.q_lt_productions; at_bound = omega (arith, c.requires.at_bound); count_bound = omega (arith, c.requires.count_bound, ap (λ (l : Live). l.count) c.restore-taken.ensures.live); well_formed = c.requires.well_formed }

pub returns-in_err-visited : goal.returns-in_err-visited
returns-in_err-visited c =
    let b = c.args.stack.now in
    subst (λ (r : Taken Acted). LeavesAs c.args.s.now c.args.q (full c.args.z b) (record { write = c.args.write; lent = c.args.out.now; at = c.args.at }) (seen_if r b) c.visit.new.out) (sym c.from_residual.ensures)
    (leave_rejected c.args.s.now c.args.q (full c.args.z b) (record { write = c.args.write; lent = c.args.out.now; at = c.args.at }) _
    (visited_again c.args.s.now c.args.q 0 (full c.args.z b) (record { write = c.args.write; lent = c.args.out.now; at = c.args.at }) _ _ (record { saved = c.restore-taken.result.saved; state = full c.restore-taken.result.live b }) (full_restored _ _ b c.restore-taken.ensures) (c.in_err-visited.ensures b)))

pub echo_tag-to-requires : goal.echo_tag-to-requires
echo_tag-to-requires c =
    record { laid_out = c.requires.laid_out; q_lt_productions = c.requires.q_lt_productions; at_bound = omega (arith, c.requires.at_bound, (c.in_ok-visited.ensures c.args.stack.now).reach); well_formed = c.requires.well_formed }

pub pop-requires : goal.pop-requires
pop-requires c =
    omega (arith, ap (λ (l : Live). l.depth) c.with_env-left.ensures, ap (λ (u : State). u.depth) (c.in_ok-visited.ensures c.args.stack.now).state_is, ap (λ (l : Live). l.depth) c.restore-taken.ensures.live, c.requires.depth_le_most)

pub returns : goal.returns
returns c =
    let b = c.args.stack.now in
    let w : State = full c.in_ok-visited.visited.live b in
    let f = full_restored _ _ b c.restore-taken.ensures in
    left c.args.s.now c.args.q (full c.args.z b) (record { write = c.args.write; lent = c.args.out.now; at = c.args.at }) _ _
    (visited_again c.args.s.now c.args.q 0 (full c.args.z b) (record { write = c.args.write; lent = c.args.out.now; at = c.args.at }) _ _ (record { saved = c.restore-taken.result.saved; state = full c.restore-taken.result.live b }) f (c.in_ok-visited.ensures b))
    _ _ c.echo_tag-to.ensures
    (full c.with_env-left.result b)
    (ap (λ (h : Live). full h b) c.with_env-left.ensures ∙ ap (λ (u : Restored). with_env w w.values u.saved.echo w.count) f)
    (ap (λ (h : Live). h.count) c.pop.ensures.is) (ap (λ (h : Live). h.closed) c.pop.ensures.is)
    c.pop.ensures.means c.pop.ensures.shaped
