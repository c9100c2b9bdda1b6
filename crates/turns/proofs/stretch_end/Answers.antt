use Rattle.turns.proofs.Laws.{end_27, end_other}
use Rattle.turns.proofs.stretch_end.Goals as goal

-- By the number.
-- Assumes nothing.
pub returns-then-number-eq27 : goal.returns-then-number-eq27
returns-then-number-eq27 c = end_27 c.args.number c.args.end c.args.token c.if-number-eq27.true

pub returns-else-number-eq27 : goal.returns-else-number-eq27
returns-else-number-eq27 c = end_other c.args.number c.args.end c.args.token c.if-number-eq27.false
