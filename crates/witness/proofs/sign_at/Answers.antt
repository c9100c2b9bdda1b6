use borrow.Author.Rules.{rules}
use Rattle.witness.proofs.Signs.{sign_first, sign_second, sign_lower, sign_upper}
use Rattle.witness.proofs.sign_at.Goals as goal

-- `sign_at`: a closing bracket tells its star, two opening ones their union.
-- Assumes nothing.
pub returns-then-c-eq1 : goal.returns-then-c-eq1
returns-then-c-eq1 c = sign_first _ _ c.if-c-eq1.true

pub returns-then-d-eq1 : goal.returns-then-d-eq1
returns-then-d-eq1 c = sign_second _ _ c.if-c-eq1.false c.if-d-eq1.true

pub returns-then-c-d : goal.returns-then-c-d
returns-then-c-d c = sign_lower _ _ c.if-c-eq1.false c.if-d-eq1.false _ c.if-c-d.true c.sign_before.ensures

pub returns : goal.returns
returns c = sign_upper _ _ c.if-c-eq1.false c.if-d-eq1.false _ c.if-c-d.false c.sign_before-2.ensures
