use mathlib.Core.Path.{refl}
use Rattle.witness.proofs.Operations.{both_no_first, both_no_second, both_one, both_two}
use borrow.Author.Rules.{rules}
use Rattle.witness.proofs.both.Goals as goal

-- `both`: by the counts.
-- Assumes nothing.
-- src/lib.rt:174:9
-- src/lib.rt:174:9
pub returns-then-f-eq0 : goal.returns-then-f-eq0
returns-then-f-eq0 c = both_no_first _ _ _ c.nothing.ensures c.if-f-eq0.true

-- src/lib.rt:177:9
-- src/lib.rt:177:9
pub returns-then-g-eq0 : goal.returns-then-g-eq0
returns-then-g-eq0 c = both_no_second _ _ _ c.nothing-then-g-eq0.ensures c.if-g-eq0.true

-- src/lib.rt:181:9
-- src/lib.rt:184:13
-- src/lib.rt:185:9
pub returns-then-g-eq1 : goal.returns-then-g-eq1
returns-then-g-eq1 c = both_one _ _ c.if-f-eq0.false c.if-g-eq0.false _ c.joined-first.ensures c.if-g-eq1.true refl c.joined-second.ensures

-- src/lib.rt:192:9
-- src/lib.rt:170:1
pub returns : goal.returns
returns c = both_two _ _ c.if-f-eq0.false c.if-g-eq0.false _ c.joined-first.ensures c.if-g-eq1.false refl c.joined-second-2.ensures
