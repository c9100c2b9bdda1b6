use Rattle.ahead.proofs.Going.{wide_on, wide_off}
use Rattle.ahead.proofs.width.Goals as goal

pub returns-then-on : goal.returns-then-on
returns-then-on c = wide_on _ c.if-on.true

pub returns-else-on : goal.returns-else-on
returns-else-on c = wide_off _ c.if-on.false
