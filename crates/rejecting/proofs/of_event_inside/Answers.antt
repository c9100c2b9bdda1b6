use mathlib.Core.Path.{◌≡◌, sym, ◌∙◌}
use native.Mathlib.Omega.{arith}
use lib.ListN.{length, take}
use lib.Seq.{length-take-le}
use Rattle.live.proofs.Stacks.{top_full}
use Rattle.steps.proofs.Tops.{follows, well, runs_in, top_inside, top_few}
use Rattle.rejecting.proofs.Events.{none_told, visit_at, last_at}
use Rattle.rejecting.proofs.of_event_inside.Goals as goal

-- The way's brackets are asked one after the other, and then the act behind them.
pub find_way-requires : goal.find_way-requires
find_way-requires c =
    let y = c.requires.ready_at.ready in
    let o = c.requires.depth_nonzero in
    let e = c.top-f.ensures ∙ sym (top_full c.args.z c.args.stack.now c.requires.depth_nonzero) in
    record { laid_out = c.requires.laid_out; runs_inside = runs_in y; trees = (well y).trees; follows_s = follows y; q_lt_productions = top_inside y o e c.requires.laid_out; q_bound = top_few y o e; most_brackets_in_bounds = omega arith }

pub returns-in_default : goal.returns-in_default
returns-in_default c =
    none_told c.requires.depth_nonzero (c.top-f.ensures ∙ sym (top_full c.args.z c.args.stack.now c.requires.depth_nonzero)) c.args.x _ c.in_default.ensures.told _

pub slice_bounds-first_rejecting-end : goal.slice_bounds-first_rejecting-end
slice_bounds-first_rejecting-end c =
    sym (length-take-le c.in-Some.w.length c.find_way.new.line (omega (arith, c.in-Some.ensures.few, c.in-Some.ensures.long)))

pub first_rejecting-i-requires : goal.first_rejecting-i-requires
first_rejecting-i-requires c =
    let y = c.requires.ready_at.ready in
    let long : length (take c.in-Some.w.length c.find_way.new.line) ≡ c.in-Some.w.length = length-take-le c.in-Some.w.length c.find_way.new.line (omega (arith, c.in-Some.ensures.few, c.in-Some.ensures.long)) in
    let e = c.top-f.ensures ∙ sym (top_full c.args.z c.args.stack.now c.requires.depth_nonzero) in
    record { laid_out = c.requires.laid_out; q_lt_productions = top_inside y c.requires.depth_nonzero e c.requires.laid_out; line_len_bound = omega (arith, long, c.in-Some.ensures.few); count_bound = c.requires.count_bound; well_formed = well y }

pub returns-then-i-n : goal.returns-then-i-n
returns-then-i-n c =
    let long : length (take c.in-Some.w.length c.find_way.new.line) ≡ c.in-Some.w.length = length-take-le c.in-Some.w.length c.find_way.new.line (omega (arith, c.in-Some.ensures.few, c.in-Some.ensures.long)) in
    visit_at c.requires.depth_nonzero (c.top-f.ensures ∙ sym (top_full c.args.z c.args.stack.now c.requires.depth_nonzero)) c.args.x c.in-Some.w c.find_way.new.line c.in-Some.ensures.told long (c.first_rejecting-i.ensures c.args.stack.now) c.if-i-n.true c.visit_of.ensures

pub returns : goal.returns
returns c =
    let long : length (take c.in-Some.w.length c.find_way.new.line) ≡ c.in-Some.w.length = length-take-le c.in-Some.w.length c.find_way.new.line (omega (arith, c.in-Some.ensures.few, c.in-Some.ensures.long)) in
    last_at c.requires.depth_nonzero (c.top-f.ensures ∙ sym (top_full c.args.z c.args.stack.now c.requires.depth_nonzero)) c.args.x c.in-Some.w c.find_way.new.line c.in-Some.ensures.told long (c.first_rejecting-i.ensures c.args.stack.now) (λ h. omega (arith, h, c.if-i-n.false)) c.last_of.ensures
