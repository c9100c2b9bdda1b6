use mathlib.Core.Logic.{inl, inr}
use borrow.Author.Rules.{rules}
use Rattle.converter.proofs.Entering.{left_open, left_closed}
use Rattle.converter.proofs.left_with.Goals as goal

-- By the two numbers that leave the state open.
pub returns-then-number-eq16 : goal.returns-then-number-eq16
returns-then-number-eq16 c = left_open _ _ (inl c.if-number-eq16.true)

pub returns-then-number-eq17 : goal.returns-then-number-eq17
returns-then-number-eq17 c = left_open _ _ (inr c.if-number-eq17.true)

pub returns : goal.returns
returns c = left_closed _ _ c.if-number-eq16.false c.if-number-eq17.false
