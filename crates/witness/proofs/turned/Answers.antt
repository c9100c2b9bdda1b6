use native.Mathlib.Omega.{arith}
use Rattle.witness.proofs.Operations.{turned_none, turned_same, turned_again}
use borrow.Author.Rules.{rules}
use Rattle.witness.proofs.turned.Goals as goal

-- `turned`: by the counts.
-- Assumes nothing.
-- src/lib.rt:205:9
pub returns-then-f-eq0 : goal.returns-then-f-eq0
returns-then-f-eq0 c = turned_none _ _ c.if-f-eq0.true

-- src/lib.rt:208:9
pub returns-then-g-ne1 : goal.returns-then-g-ne1
returns-then-g-ne1 c = turned_same _ _ c.if-g-ne1.true

-- src/lib.rt:212:9
-- src/lib.rt:201:1
pub returns : goal.returns
returns c = turned_again _ _ c.if-f-eq0.false (omega (arith, c.if-g-ne1.false)) _ c.joined-again.ensures
