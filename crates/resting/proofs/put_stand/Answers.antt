use borrow.Author.Rules.{rules}
use native.Mathlib.Omega.{arith}
use Rattle.resting.proofs.Laws.{laid_none, laid_returns}
use Rattle.resting.specs.Laid.{put_between_lem, put_inside_lem, put_skipping}
use Rattle.resting.proofs.put_stand.Goals as goal

-- By the mode.
-- Assumes nothing.
pub returns-then-stand-eq-BETWEEN : goal.returns-then-stand-eq-BETWEEN
returns-then-stand-eq-BETWEEN c = put_between_lem c.if-stand-eq-BETWEEN.true (laid_none c.args.live c.args.state.now _ _ _ c.requires.state_len c.put_run.ensures 0 c.args.passed 0 0 0 c.put_tail.ensures c.clear.ensures)

pub put_returns-requires : goal.put_returns-requires
put_returns-requires c = c.requires.depth_le_most_2 c.if-stand-eq-INSIDE.true

pub returns-then-stand-eq-INSIDE : goal.returns-then-stand-eq-INSIDE
returns-then-stand-eq-INSIDE c = put_inside_lem c.if-stand-eq-INSIDE.true (laid_returns c.args.live c.args.state.now _ _ _ c.requires.state_len c.put_run.ensures 1 c.args.passed c.args.stand.first 0 c.args.stand.waits c.put_tail-then-stand-eq-INSIDE.ensures c.args.stand.before c.put_returns.ensures)

pub overflow_cast-stand : goal.overflow_cast-stand
overflow_cast-stand c = omega (arith, c.requires.number_bound c.if-stand-eq-BETWEEN.false c.if-stand-eq-INSIDE.false)

pub returns : goal.returns
returns c = put_skipping c.if-stand-eq-BETWEEN.false c.if-stand-eq-INSIDE.false (laid_none c.args.live c.args.state.now _ _ _ c.requires.state_len c.put_run.ensures 2 c.args.passed c.args.stand.first c.args.stand.number 0 c.put_tail-2.ensures c.clear-2.ensures)
