use native.Mathlib.Omega.{arith}
use Rattle.witness.proofs.Operations.{either_none, either_two, either_first, either_both}
use borrow.Author.Rules.{rules}
use Rattle.witness.proofs.either.Goals as goal

-- `either`: by the counts.
-- Assumes nothing.
-- src/lib.rt:152:9
pub returns-then-f-eq0 : goal.returns-then-f-eq0
returns-then-f-eq0 c = either_none _ _ c.if-f-eq0.true

-- src/lib.rt:155:9
pub returns-then-f-gt1 : goal.returns-then-f-gt1
returns-then-f-gt1 c = either_two _ _ c.if-f-gt1.true

-- src/lib.rt:158:9
pub returns-then-g-eq0 : goal.returns-then-g-eq0
returns-then-g-eq0 c = either_first _ _ c.if-f-eq0.false c.if-f-gt1.false c.if-g-eq0.true

-- src/lib.rt:148:1
pub returns : goal.returns
returns c = either_both _ _ c.if-f-eq0.false c.if-f-gt1.false c.if-g-eq0.false
