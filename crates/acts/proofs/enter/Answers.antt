use native.Mathlib.Omega.{arith}
use mathlib.Core.Path.{refl, sym, ap, subst, ◌∙◌}
use Rattle.state.specs.Changes.{pushed}
use Rattle.state.specs.declared.Frame.{Frame}
use Rattle.state.specs.declared.State.{State}
use Rattle.state.specs.Meaning.{Fits, meaning_of}
use Rattle.live.specs.declared.Live.{Live}
use Rattle.live.specs.Live.{full}
use Rattle.std.specs.Prelude.{Option as Taken}
use Rattle.acts.specs.declared.Acted.{Acted}
use Rattle.acts.specs.Seen.{seen_if}
use Rattle.acts.specs.Acted.{EntersAs}
use Rattle.acts.proofs.Acting.{enter_rejected, entered}
use Rattle.acts.proofs.enter.Goals as goal

-- The first visit; rejected, or then the echo and the push.
pub visit-requires : goal.visit-requires
visit-requires c = record { laid_out = c.requires.laid_out; q_lt_productions = c.requires.q_lt_productions; at_bound = omega (arith, c.requires.at_bound); count_bound = omega (arith, c.requires.count_bound); well_formed = c.requires.well_formed }

pub returns-in_err-visited : goal.returns-in_err-visited
returns-in_err-visited c =
    let b = c.args.stack.now in
    record { enters_as = subst (λ (r : Taken Acted). EntersAs c.args.s.now c.args.q (full c.args.z b) (record { write = c.args.write; lent = c.args.out.now; at = c.args.at }) (seen_if r b) c.visit.new.out) (sym c.from_residual.ensures) (enter_rejected c.args.s.now c.args.q _ (full c.args.z b) (record { write = c.args.write; lent = c.args.out.now; at = c.args.at }) _ (c.in_err-visited.ensures b)); same_below = (λ i h. refl); stack_len_unchanged = refl }

pub echo_tag-to-requires : goal.echo_tag-to-requires
echo_tag-to-requires c =
    record { laid_out = c.requires.laid_out; q_lt_productions = c.requires.q_lt_productions; at_bound = omega (arith, c.requires.at_bound, (c.in_ok-visited.ensures c.args.stack.now).reach); well_formed = c.requires.well_formed }

pub push-inside-requires : goal.push-inside-requires
push-inside-requires c =
    let d = ap (λ (u : State). u.depth) (c.in_ok-visited.ensures c.args.stack.now).state_is in
    record { depth_lt_most = omega (arith, d, c.requires.depth_lt_most); stack_width_in_bounds = c.requires.stack_width_in_bounds }

pub returns : goal.returns
returns c =
    let b = c.args.stack.now in
    let new = c.start.ensures in
    let d = ap (λ (u : State). u.depth) (c.in_ok-visited.ensures b).state_is in record {
      enters_as = entered c.args.s.now c.args.q _ (full c.args.z b) (record { write = c.args.write; lent = c.args.out.now; at = c.args.at }) _ _ (c.in_ok-visited.ensures b) _ _ c.echo_tag-to.ensures
          (ap (λ (h : Live). h.count) c.push-inside.ensures.is) (ap (λ (h : Live). h.closed) c.push-inside.ensures.is)
          (λ s. c.push-inside.ensures.means s ∙ ap (λ (f : Frame). meaning_of (pushed (full c.in_ok-visited.visited.live b) f).state) new)
          (λ s f. c.push-inside.ensures.shaped s (subst Fits (sym new) f));
      same_below = (λ i h. c.push-inside.ensures.as_was i (omega (arith, h, d)));
      stack_len_unchanged = c.push-inside.ensures.long;
    }
