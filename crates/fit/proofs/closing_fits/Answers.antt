use mathlib.Core.Logic.{inl, inr}
use Rattle.tells.specs.Tells.{holds, fails}
use Rattle.runs.specs.Closing.{closed_by_end, closed_by_count}
use Rattle.fit.proofs.Frames.{closing_between, not_closing, a_closing}
use Rattle.fit.proofs.closing_fits.Goals as goal

-- The tests go through the closing numbers; past them the number lies between 20 and 27 or is none of them.
-- Assumes nothing.
pub returns-then-number-eq-OPEN : goal.returns-then-number-eq-OPEN
returns-then-number-eq-OPEN c = holds (inl c.if-number-eq-OPEN.true)

pub returns-then-number-eq0 : goal.returns-then-number-eq0
returns-then-number-eq0 c = holds (inr (a_closing closed_by_end c.if-number-eq0.true))

pub returns-then-number-eq30 : goal.returns-then-number-eq30
returns-then-number-eq30 c = holds (inr (a_closing closed_by_count c.if-number-eq30.true))

pub returns-then-number-lt20 : goal.returns-then-number-lt20
returns-then-number-lt20 c = fails (not_closing _ c.if-number-eq-OPEN.false c.if-number-eq0.false c.if-number-eq30.false c.if-number-lt20.true)

pub returns : goal.returns
returns c = closing_between _ c.if-number-eq-OPEN.false c.if-number-eq0.false c.if-number-eq30.false c.if-number-lt20.false
