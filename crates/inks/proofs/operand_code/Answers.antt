use Rattle.inks.proofs.Laws.{code_value, code_had, code_first, code_attribute}
use Rattle.inks.proofs.operand_code.Goals as goal

-- Each answer by the law that it names. Assumes nothing.
pub returns-then-kind-eq1 : goal.returns-then-kind-eq1
returns-then-kind-eq1 c = code_value c.args.second _ c.if-kind-eq1.true

pub returns-then-second : goal.returns-then-second
returns-then-second c = code_had _ _ c.if-kind-eq3.true c.if-second.true

pub returns-else-second : goal.returns-else-second
returns-else-second c = code_first _ _ c.if-kind-eq3.true c.if-second.false

pub returns-else-kind-eq3 : goal.returns-else-kind-eq3
returns-else-kind-eq3 c = code_attribute c.args.second _ c.if-kind-eq1.false c.if-kind-eq3.false
