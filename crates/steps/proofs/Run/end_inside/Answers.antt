use borrow.Author.Tests.{not-true, not-false}
use mathlib.Core.Path.{◌∙◌, ap, refl, sym}
use native.Mathlib.Omega.{arith}
use Rattle.steps.proofs.Tops.{follows, well, runs_in, top_inside, top_few, top_reads, top_end, top_brackets, top_leaves}
use Rattle.steps.proofs.Ends.{end_other, end_no_way, end_rejected, end_done}
use Rattle.live.specs.Live.{full}
use Rattle.live.proofs.Stacks.{top_full}
use Rattle.steps.proofs.Answering.{answered_whole}
use Rattle.steps.specs.declared.Stepped.{Stepped}
use Rattle.steps.specs.Seen.{whole}
use mathlib.Core.Path.{◌≡◌}
use lib.ListN.{length, take}
use lib.Seq.{length-take-le}
use Rattle.steps.proofs.Run.end_inside.Goals as goal

-- Inside an element: not its own tag, no way to the end, a visit that rejects; else the element is left.
-- Assumes nothing.
pub tag_number_of-requires : goal.tag_number_of-requires
tag_number_of-requires c =
    record { laid_out = c.requires.laid_out; q_lt_productions = top_inside c.requires.ready_at.ready c.requires.depth_nonzero (c.top-f.ensures ∙ sym (top_full c.args.self.live c.args.stack.now c.requires.depth_nonzero)) c.requires.laid_out }

pub returns-then-ne : goal.returns-then-ne
returns-then-ne c =
    end_other _ c.requires.depth_nonzero (top_reads c.args.s.now (full c.args.self.live c.args.stack.now) (c.top-f.ensures ∙ sym (top_full c.args.self.live c.args.stack.now c.requires.depth_nonzero)) c.tag_number_of.ensures) (ap (λ (y : Stepped). whole y c.args.stack.now) c.refuse.ensures) refl (not-true _ (sym c.ne.ensures ∙ c.if-ne.true))

pub find_way-requires : goal.find_way-requires
find_way-requires c =
    record { laid_out = c.requires.laid_out; runs_inside = runs_in c.requires.ready_at.ready; trees = (well c.requires.ready_at.ready).trees; follows_s = follows c.requires.ready_at.ready; q_lt_productions = top_inside c.requires.ready_at.ready c.requires.depth_nonzero (c.top-f.ensures ∙ sym (top_full c.args.self.live c.args.stack.now c.requires.depth_nonzero)) c.requires.laid_out; q_bound = top_few c.requires.ready_at.ready c.requires.depth_nonzero (c.top-f.ensures ∙ sym (top_full c.args.self.live c.args.stack.now c.requires.depth_nonzero)); most_brackets_in_bounds = omega arith }

pub returns-in_default : goal.returns-in_default
returns-in_default c =
    end_no_way _ c.requires.depth_nonzero (top_reads c.args.s.now (full c.args.self.live c.args.stack.now) (c.top-f.ensures ∙ sym (top_full c.args.self.live c.args.stack.now c.requires.depth_nonzero)) c.tag_number_of.ensures) (not-false _ (sym c.ne.ensures ∙ c.if-ne.false)) (top_end c.args.s.now (full c.args.self.live c.args.stack.now) (c.top-f.ensures ∙ sym (top_full c.args.self.live c.args.stack.now c.requires.depth_nonzero)) c.in_default.ensures.told.0) (ap (λ (y : Stepped). whole y c.args.stack.now) c.refuse-in_default.ensures) refl

pub slice_bounds-line-end : goal.slice_bounds-line-end
slice_bounds-line-end c =
    omega (arith, c.in-Some.ensures.few)

pub slice_bounds-brackets-end : goal.slice_bounds-brackets-end
slice_bounds-brackets-end c =
    let long : length (take c.in-Some.w.length c.find_way.new.line) ≡ c.in-Some.w.length =
    length-take-le c.in-Some.w.length c.find_way.new.line (omega (arith, c.in-Some.ensures.few, c.in-Some.ensures.long)) in
    sym long

pub brackets-requires : goal.brackets-requires
brackets-requires c =
    let long : length (take c.in-Some.w.length c.find_way.new.line) ≡ c.in-Some.w.length =
    length-take-le c.in-Some.w.length c.find_way.new.line (omega (arith, c.in-Some.ensures.few, c.in-Some.ensures.long)) in
    record { laid_out = c.requires.laid_out; q_lt_productions = top_inside c.requires.ready_at.ready c.requires.depth_nonzero (c.top-f.ensures ∙ sym (top_full c.args.self.live c.args.stack.now c.requires.depth_nonzero)) c.requires.laid_out; line_len_bound = omega (arith, long, c.in-Some.ensures.few); at_bound = omega (arith, c.requires.at_bound); count_bound = omega (arith, c.requires.count_bound); well_formed = well c.requires.ready_at.ready }

pub returns-in_default-brackets : goal.returns-in_default-brackets
returns-in_default-brackets c =
    end_rejected _ c.requires.depth_nonzero (top_reads c.args.s.now (full c.args.self.live c.args.stack.now) (c.top-f.ensures ∙ sym (top_full c.args.self.live c.args.stack.now c.requires.depth_nonzero)) c.tag_number_of.ensures) (not-false _ (sym c.ne.ensures ∙ c.if-ne.false)) (top_end c.args.s.now (full c.args.self.live c.args.stack.now) (c.top-f.ensures ∙ sym (top_full c.args.self.live c.args.stack.now c.requires.depth_nonzero)) c.in-Some.ensures.told.0) (top_brackets c.args.s.now (full c.args.self.live c.args.stack.now) (c.top-f.ensures ∙ sym (top_full c.args.self.live c.args.stack.now c.requires.depth_nonzero)) (rw c.in_default-brackets.is at (c.brackets.ensures c.args.stack.now))) refl (ap (λ (y : Stepped). whole y c.args.stack.now) c.refuse-in_default-brackets.ensures)

pub leave-left-requires : goal.leave-left-requires
leave-left-requires c =
    let B = rw c.in-Some-brackets.is at (c.brackets.ensures c.args.stack.now) in
    record { laid_out = c.requires.laid_out; q_lt_productions = top_inside c.requires.ready_at.ready c.requires.depth_nonzero (c.top-f.ensures ∙ sym (top_full c.args.self.live c.args.stack.now c.requires.depth_nonzero)) c.requires.laid_out; at_bound = omega (arith, c.requires.at_bound, (top_brackets c.args.s.now (full c.args.self.live c.args.stack.now) (c.top-f.ensures ∙ sym (top_full c.args.self.live c.args.stack.now c.requires.depth_nonzero)) B).reach); count_bound = omega (arith, c.requires.count_bound, (top_brackets c.args.s.now (full c.args.self.live c.args.stack.now) (c.top-f.ensures ∙ sym (top_full c.args.self.live c.args.stack.now c.requires.depth_nonzero)) B).count); well_formed = well c.requires.ready_at.ready; depth_le_most = omega (arith, B.deep, c.requires.ready_at.ready.shaped.deep) }

pub returns : goal.returns
returns c =
    end_done _ c.requires.depth_nonzero (top_reads c.args.s.now (full c.args.self.live c.args.stack.now) (c.top-f.ensures ∙ sym (top_full c.args.self.live c.args.stack.now c.requires.depth_nonzero)) c.tag_number_of.ensures) (not-false _ (sym c.ne.ensures ∙ c.if-ne.false)) (top_end c.args.s.now (full c.args.self.live c.args.stack.now) (c.top-f.ensures ∙ sym (top_full c.args.self.live c.args.stack.now c.requires.depth_nonzero)) c.in-Some.ensures.told.0) (top_brackets c.args.s.now (full c.args.self.live c.args.stack.now) (c.top-f.ensures ∙ sym (top_full c.args.self.live c.args.stack.now c.requires.depth_nonzero)) (rw c.in-Some-brackets.is at (c.brackets.ensures c.args.stack.now))) _ (top_leaves c.args.s.now (full c.args.self.live c.args.stack.now) (c.top-f.ensures ∙ sym (top_full c.args.self.live c.args.stack.now c.requires.depth_nonzero)) c.leave-left.ensures) (ap (λ (y : Stepped). whole y c.args.stack.now) c.answer.ensures ∙ answered_whole c.args.self c.leave-left.result c.args.stack.now c.args.stack.now refl)
