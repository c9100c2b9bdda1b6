use borrow.Author.Rules.{rules}
use Rattle.holding.proofs.Laws.{mode_0, mode_over, mode_early, mode_2, mode_few, mode_long, mode_1, depth_in, one_left}
use Rattle.holding.proofs.mode_fits.Goals as goal

-- By the mode.
-- Assumes nothing.
pub returns-then-mode-eq0 : goal.returns-then-mode-eq0
returns-then-mode-eq0 c = mode_0 _ _ c.byte_at-mode.ensures c.if-mode-eq0.true (depth_in c.args.state.now c.heading_at-h.result c.heading_at-h.ensures)

pub returns-then-mode-gt2 : goal.returns-then-mode-gt2
returns-then-mode-gt2 c = mode_over _ c.byte_at-mode.ensures c.if-mode-gt2.true

pub returns-then-passed-number_at : goal.returns-then-passed-number_at
returns-then-passed-number_at c = mode_early _ _ _ c.byte_at-mode.ensures c.if-mode-eq0.false c.number_at-passed.ensures c.number_at.ensures c.if-passed-number_at.true

pub returns-then-mode-eq2 : goal.returns-then-mode-eq2
returns-then-mode-eq2 c = mode_2 _ _ _ _ _ c.byte_at-mode.ensures c.if-mode-eq2.true (depth_in c.args.state.now c.heading_at-h.result c.heading_at-h.ensures) c.byte_at-number.ensures c.number_at-passed.ensures c.number_at.ensures c.if-passed-number_at.false

pub returns-then-depth-lt2 : goal.returns-then-depth-lt2
returns-then-depth-lt2 c = mode_few _ c.byte_at-mode.ensures (one_left _ c.if-mode-eq0.false c.if-mode-gt2.false c.if-mode-eq2.false) _ (depth_in c.args.state.now c.heading_at-h.result c.heading_at-h.ensures) c.if-depth-lt2.true

pub returns-then-area-number_at : goal.returns-then-area-number_at
returns-then-area-number_at c = mode_long _ c.byte_at-mode.ensures (one_left _ c.if-mode-eq0.false c.if-mode-gt2.false c.if-mode-eq2.false) _ c.number_at-2.ensures c.if-area-number_at.true

pub returns : goal.returns
returns c = mode_1 _ c.byte_at-mode.ensures (one_left _ c.if-mode-eq0.false c.if-mode-gt2.false c.if-mode-eq2.false) _ _ _ _ (depth_in c.args.state.now c.heading_at-h.result c.heading_at-h.ensures) c.if-depth-lt2.false c.number_at-passed.ensures c.number_at.ensures c.if-passed-number_at.false c.number_at-2.ensures c.if-area-number_at.false c.returns_fit.ensures
