use borrow.Author.Rules.{rules}
use mathlib.Core.Path.{sym, ◌∙◌}
use Rattle.holding.proofs.Laws.{inside_as, skipping_as}
use Rattle.holding.specs.Told.{is_between, is_inside, is_skipping}
use Rattle.holding.proofs.stand_in.Goals as goal

-- By the mode.
-- Assumes nothing.
pub returns-then-mode-eq0 : goal.returns-then-mode-eq0
returns-then-mode-eq0 c = is_between (sym c.byte_at-mode.ensures ∙ c.if-mode-eq0.true) _ c.live_in-live.ensures c.between.ensures

pub returning-before-requires : goal.returning-before-requires
returning-before-requires c = record { state_len = c.requires.state_len; shaped = c.requires.shaped_2 (sym c.byte_at-mode.ensures ∙ c.if-mode-eq1.true) }

pub returns-then-mode-eq1 : goal.returns-then-mode-eq1
returns-then-mode-eq1 c = is_inside (sym c.byte_at-mode.ensures ∙ c.if-mode-eq1.true) _ _ c.returning-before.ensures c.live_in-live.ensures (inside_as c.inside.ensures c.number_at-first.ensures c.number_at-waits.ensures)

pub returns : goal.returns
returns c = is_skipping (λ e. c.if-mode-eq0.false (c.byte_at-mode.ensures ∙ e)) (λ e. c.if-mode-eq1.false (c.byte_at-mode.ensures ∙ e)) _ c.live_in-live.ensures (skipping_as c.skipping.ensures c.number_at-first.ensures c.byte_at-number.ensures)
