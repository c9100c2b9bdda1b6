use Rattle.std.specs.Prelude.{Option as Taken}
use mathlib.Core.Path.{◌∙◌, ap, subst, sym}
use borrow.Author.Rules.{Fits-under}
use native.Mathlib.Omega.{arith}
use Rattle.state.specs.declared.State.{State}
use Rattle.steps.proofs.Tops.{well, top_inside, top_brackets}
use Rattle.acts.specs.declared.Acted.{Acted}
use Rattle.acts.specs.Seen.{seen_if}
use Rattle.steps.specs.Parts.{FollowsAs}
use Rattle.steps.proofs.Follows.{follow_rejected, follow_done}
use Rattle.live.specs.Live.{full}
use Rattle.live.specs.declared.Live.{Live}
use Rattle.live.proofs.Stacks.{top_full, full_placed}
use Rattle.steps.proofs.Run.follow.Goals as goal

-- A visit rejects, or the element is put at the way's place.
-- Assumes nothing.
pub brackets-requires : goal.brackets-requires
brackets-requires c =
    record { laid_out = c.requires.laid_out; q_lt_productions = top_inside c.requires.ready_at.ready c.requires.depth_nonzero (c.top-f.ensures ∙ sym (top_full c.args.self.live c.args.stack.now c.requires.depth_nonzero)) c.requires.laid_out; line_len_bound = c.requires.line_len_bound; at_bound = omega (arith, c.requires.at_bound); count_bound = omega (arith, c.requires.count_bound); well_formed = well c.requires.ready_at.ready }

pub returns-in_err-done : goal.returns-in_err-done
returns-in_err-done c =
    subst (λ (r : Taken Acted). FollowsAs c.args.s.now c.args.place c.args.line.now (full c.args.self.live c.args.stack.now) (record { write = c.args.write; lent = c.args.out.now; at = c.args.self.at }) (seen_if r c.args.stack.now) c.brackets.new.out) (sym c.from_residual.ensures)
    (follow_rejected (top_brackets c.args.s.now (full c.args.self.live c.args.stack.now) (c.top-f.ensures ∙ sym (top_full c.args.self.live c.args.stack.now c.requires.depth_nonzero)) (c.in_err-done.ensures c.args.stack.now)))

pub overflow_cast-place : goal.overflow_cast-place
overflow_cast-place c =
    Fits-under _ _ _ c.requires.place_bound tt

pub returns : goal.returns
returns c =
    follow_done _ (top_brackets c.args.s.now (full c.args.self.live c.args.stack.now) (c.top-f.ensures ∙ sym (top_full c.args.self.live c.args.stack.now c.requires.depth_nonzero)) (c.in_ok-done.ensures c.args.stack.now)) _ (ap (λ (y : Live). record { at = c.in_ok-done.done.at; state = full y c.args.stack.now }) c.at_place.ensures ∙ ap (λ (y : State). record { at = c.in_ok-done.done.at; state = y }) (full_placed _ _ c.args.stack.now))
