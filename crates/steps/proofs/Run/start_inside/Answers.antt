use mathlib.Core.Path.{◌∙◌, ap, refl, sym}
use native.Mathlib.Omega.{arith}
use Rattle.steps.proofs.Tops.{follows, well, runs_in, top_inside, top_few, found_inside, top_way, place_below}
use Rattle.steps.proofs.Starts.{no_way, no_element, too_deep, start_rejected, start_done}
use Rattle.live.specs.Live.{full, SameBelow}
use Rattle.live.proofs.Stacks.{top_full, full_same}
use Rattle.steps.proofs.Answering.{answered_whole}
use Rattle.steps.specs.declared.Stepped.{Stepped}
use Rattle.steps.specs.Seen.{whole}
use mathlib.Core.Path.{◌≡◌}
use lib.ListN.{length, take}
use lib.Seq.{length-take-le}
use Rattle.steps.proofs.Run.start_inside.Goals as goal

-- Inside an element: no way, no production, no room, a visit that rejects; else the production is entered.
-- Assumes nothing.
pub find_way-requires : goal.find_way-requires
find_way-requires c =
    record { laid_out = c.requires.laid_out; runs_inside = runs_in c.requires.ready_at.ready; trees = (well c.requires.ready_at.ready).trees; follows_s = follows c.requires.ready_at.ready; q_lt_productions = top_inside c.requires.ready_at.ready c.requires.depth_nonzero (c.top-f.ensures ∙ sym (top_full c.args.self.live c.args.stack.now c.requires.depth_nonzero)) c.requires.laid_out; q_bound = top_few c.requires.ready_at.ready c.requires.depth_nonzero (c.top-f.ensures ∙ sym (top_full c.args.self.live c.args.stack.now c.requires.depth_nonzero)); most_brackets_in_bounds = omega arith }

pub returns-in_default : goal.returns-in_default
returns-in_default c =
    record { stepped = no_way _ c.requires.depth_nonzero (top_way c.args.s.now (full c.args.self.live c.args.stack.now) (c.top-f.ensures ∙ sym (top_full c.args.self.live c.args.stack.now c.requires.depth_nonzero)) c.in_default.ensures.told) (ap (λ (y : Stepped). whole y c.args.stack.now) c.refuse.ensures) refl; below = λ i h. refl; long = refl }

pub returns-in_default-production_for : goal.returns-in_default-production_for
returns-in_default-production_for c =
    record { stepped = no_element _ c.requires.depth_nonzero (top_way c.args.s.now (full c.args.self.live c.args.stack.now) (c.top-f.ensures ∙ sym (top_full c.args.self.live c.args.stack.now c.requires.depth_nonzero)) c.in-Some.ensures.told) (rw c.in_default-production_for.is at c.production_for.ensures) (ap (λ (y : Stepped). whole y c.args.stack.now) c.refuse-in_default-production_for.ensures) refl; below = λ i h. refl; long = refl }

pub returns-then-live-ge-DEPTH : goal.returns-then-live-ge-DEPTH
returns-then-live-ge-DEPTH c =
    record { stepped = too_deep _ c.requires.depth_nonzero (top_way c.args.s.now (full c.args.self.live c.args.stack.now) (c.top-f.ensures ∙ sym (top_full c.args.self.live c.args.stack.now c.requires.depth_nonzero)) c.in-Some.ensures.told) (rw c.in-Some-production_for.is at c.production_for.ensures) (ap (λ (y : Stepped). whole y c.args.stack.now) c.refuse-then-live-ge-DEPTH.ensures) refl c.if-live-ge-DEPTH.true; below = λ i h. refl; long = refl }

pub slice_bounds-line-end : goal.slice_bounds-line-end
slice_bounds-line-end c =
    omega (arith, c.in-Some.ensures.few)

pub slice_bounds-follow-end : goal.slice_bounds-follow-end
slice_bounds-follow-end c =
    let long : length (take c.in-Some.w.length c.find_way.new.line) ≡ c.in-Some.w.length =
    length-take-le c.in-Some.w.length c.find_way.new.line (omega (arith, c.in-Some.ensures.few, c.in-Some.ensures.long)) in
    sym long

pub follow-requires : goal.follow-requires
follow-requires c =
    let long : length (take c.in-Some.w.length c.find_way.new.line) ≡ c.in-Some.w.length =
    length-take-le c.in-Some.w.length c.find_way.new.line (omega (arith, c.in-Some.ensures.few, c.in-Some.ensures.long)) in
    record { laid_out = c.requires.laid_out; ready_at = c.requires.ready_at; depth_nonzero = c.requires.depth_nonzero; place_bound = place_below c.requires.ready_at.ready c.requires.depth_nonzero (top_way c.args.s.now (full c.args.self.live c.args.stack.now) (c.top-f.ensures ∙ sym (top_full c.args.self.live c.args.stack.now c.requires.depth_nonzero)) c.in-Some.ensures.told); line_len_bound = omega (arith, long, c.in-Some.ensures.few); at_bound = c.requires.at_bound; count_bound = c.requires.count_bound }

pub returns-in_default-follow : goal.returns-in_default-follow
returns-in_default-follow c =
    record { stepped = start_rejected _ c.requires.depth_nonzero (top_way c.args.s.now (full c.args.self.live c.args.stack.now) (c.top-f.ensures ∙ sym (top_full c.args.self.live c.args.stack.now c.requires.depth_nonzero)) c.in-Some.ensures.told) (rw c.in-Some-production_for.is at c.production_for.ensures) c.if-live-ge-DEPTH.false (rw c.in_default-follow.is at c.follow.ensures) refl (ap (λ (y : Stepped). whole y c.args.stack.now) c.refuse-in_default-follow.ensures); below = λ i h. refl; long = refl }

pub enter-entered-requires : goal.enter-entered-requires
enter-entered-requires c =
    let F = rw c.in-Some-follow.is at c.follow.ensures in
    record { laid_out = c.requires.laid_out; q_lt_productions = found_inside c.requires.ready_at.ready c.requires.laid_out (rw c.in-Some-production_for.is at c.production_for.ensures); at_bound = omega (arith, c.requires.at_bound, F.reach); count_bound = omega (arith, c.requires.count_bound, F.count); well_formed = well c.requires.ready_at.ready; depth_lt_most = omega (arith, F.deep, c.if-live-ge-DEPTH.false); stack_width_in_bounds = c.requires.ready_at.long }

pub returns : goal.returns
returns c =
    let F = rw c.in-Some-follow.is at c.follow.ensures in
    let below : SameBelow c.args.self.live c.args.stack.now c.enter-entered.new.stack = λ i h. c.enter-entered.ensures.same_below i (omega (arith, h, F.deep)) in
    record { stepped = start_done _ c.requires.depth_nonzero (top_way c.args.s.now (full c.args.self.live c.args.stack.now) (c.top-f.ensures ∙ sym (top_full c.args.self.live c.args.stack.now c.requires.depth_nonzero)) c.in-Some.ensures.told) (rw c.in-Some-production_for.is at c.production_for.ensures) c.if-live-ge-DEPTH.false F _ c.enter-entered.ensures.enters_as (ap (λ (y : Stepped). whole y c.enter-entered.new.stack) c.answer.ensures ∙ answered_whole c.args.self c.enter-entered.result c.args.stack.now c.enter-entered.new.stack (full_same c.args.self.live c.args.stack.now c.enter-entered.new.stack below)); below = below; long = c.enter-entered.ensures.stack_len_unchanged }
