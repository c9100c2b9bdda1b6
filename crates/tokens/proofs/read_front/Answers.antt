use native.Mathlib.Omega.{arith}
use Rattle.tokens.proofs.Reading
use Rattle.tokens.proofs.read_front.Goals as goal

-- The first byte, or the first two, choose the function that answers.
pub returns-then-f-eq0 : goal.returns-then-f-eq0
returns-then-f-eq0 c = Reading.begun_none c.args.f.now c.args.at c.if-f-eq0.true

pub returns-then-f-eq1 : goal.returns-then-f-eq1
returns-then-f-eq1 c = Reading.begun_open c.args.f.now c.args.at c.if-f-eq1.true c.if-b-eq60.true

pub returns-then-f-eq1-2 : goal.returns-then-f-eq1-2
returns-then-f-eq1-2 c = Reading.begun_amp c.args.f.now c.args.at c.if-f-eq1-2.true c.if-b-eq38.true

pub returns-then-b-eq62 : goal.returns-then-b-eq62
returns-then-b-eq62 c = Reading.greater_bad c.args.f.now c.args.at (omega arith) c.if-b-eq62.true
