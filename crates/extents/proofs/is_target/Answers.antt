use Rattle.extents.proofs.KindTests.{target_plain, target_left, target_right, no_target}
use Rattle.extents.proofs.is_target.Goals as goal

-- Each answer by the law that it names. Assumes nothing.
pub returns-then-kind-eq2 : goal.returns-then-kind-eq2
returns-then-kind-eq2 c = target_plain c.args.second _ c.if-kind-eq2.true

pub returns-then-kind-eq3 : goal.returns-then-kind-eq3
returns-then-kind-eq3 c = target_left c.args.second _ c.if-kind-eq3.true

pub returns-then-kind-eq4 : goal.returns-then-kind-eq4
returns-then-kind-eq4 c = target_right c.args.second _ c.if-kind-eq4.true

pub returns : goal.returns
returns c = no_target c.args.second _ c.if-kind-eq2.false c.if-kind-eq3.false c.if-kind-eq4.false
