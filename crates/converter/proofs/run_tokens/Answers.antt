use mathlib.Core.Path.{◌∙◌}
use native.Mathlib.Omega.{arith}
use borrow.Author.Rules.{rules}
use Rattle.converter.proofs.InPlace.{long_with, room_here, may_here, ran_here}
use Rattle.converter.proofs.run_tokens.Goals as goal

-- The live part that is read runs over the frames where they lie, and what is put back is what the run left.
pub live_in-live-requires : goal.live_in-live-requires
live_in-live-requires c = c.requires.may_run.shaped

pub slice_bounds-run_live-count : goal.slice_bounds-run_live-count
slice_bounds-run_live-count c = omega (arith, c.requires.state_len)

pub slice_bounds-run_live-start : goal.slice_bounds-run_live-start
slice_bounds-run_live-start c = omega (arith, c.requires.state_len)

pub run_live-reply-requires : goal.run_live-reply-requires
run_live-reply-requires c =
    let h = c.live_in-live in
    let b = c.args.state.now in record { laid_out = c.requires.laid_out; may_run = may_here c.args.s.now b h.result c.requires.state_len c.requires.may_run h.ensures; stack_width_in_bounds = room_here c.args.s.now b h.result c.requires.state_len c.requires.may_run h.ensures }

pub put_back-requires : goal.put_back-requires
put_back-requires c =
    let n = c.requires.state_len in
    record { depth_le_most = c.run_live-reply.ensures.deep; bytes_len = long_with c.args.state.now c.run_live-reply.new.stack n c.run_live-reply.auto.stack ∙ n }

pub shape_of-state : goal.shape_of-state
shape_of-state c =
    c.put_back.auto.bytes ∙ long_with c.args.state.now c.run_live-reply.new.stack c.requires.state_len c.run_live-reply.auto.stack

pub returns : goal.returns
returns c =
    let h = c.live_in-live in
    ran_here c.args.s.now c.args.state.now h.result c.requires.state_len c.requires.may_run h.ensures c.run_live-reply.result _ _ c.run_live-reply.ensures
    c.put_back.ensures.bytes_after c.put_back.ensures.bytes_after_2
