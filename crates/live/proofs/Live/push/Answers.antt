use native.Mathlib.Omega.{arith}
use borrow.Author.Rules.{rules}
use Rattle.state.proofs.Sizes.{frame_sized}
use Rattle.live.proofs.Stacks.{push_first, push_next}
use Rattle.live.proofs.Live.push.Goals as goal

-- src/lib.rt:41:22
-- src/lib.rt:43:13
pub returns-then-d-eq0 : goal.returns-then-d-eq0
returns-then-d-eq0 c = push_first c.args.base c.args.self c.args.f c.args.stack.now c.requires.depth_lt_most c.if-d-eq0.true

-- src/lib.rt:45:41
-- src/lib.rt:45:26
-- src/lib.rt:45:9
-- src/lib.rt:32:5
-- src/lib.rt:32:5
pub returns : goal.returns
returns c =
    push_next c.args.base c.args.self c.args.f c.args.stack.now _ c.requires.depth_lt_most c.if-d-eq0.false c.requires.stack_width_in_bounds (frame_sized c.args.self.top _ c.well_formed.0.1.1.1.1.1.1.1.1.0) c.put_used.ensures
