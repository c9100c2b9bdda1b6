use Rattle.extents.proofs.KindTests.{plain_reject, plain_echo, plain_off, no_plain}
use Rattle.extents.proofs.is_plain.Goals as goal

-- Each answer by the law that it names. Assumes nothing.
pub returns-then-kind-eq13 : goal.returns-then-kind-eq13
returns-then-kind-eq13 c = plain_reject c.args.second _ c.if-kind-eq13.true

pub returns-then-kind-eq11 : goal.returns-then-kind-eq11
returns-then-kind-eq11 c = plain_echo c.args.second _ c.if-kind-eq11.true

pub returns-then-kind-eq12 : goal.returns-then-kind-eq12
returns-then-kind-eq12 c = plain_off c.args.second _ c.if-kind-eq12.true

pub returns : goal.returns
returns c = no_plain c.args.second _ c.if-kind-eq13.false c.if-kind-eq11.false c.if-kind-eq12.false
