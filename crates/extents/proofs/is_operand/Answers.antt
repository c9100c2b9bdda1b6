use mathlib.Core.Path.{sym, ◌∙◌}
use Rattle.extents.proofs.KindTests.{operand_value, operand_target, operand_left, no_operand}
use Rattle.extents.proofs.is_operand.Goals as goal

-- Each answer by the law that it names. Assumes nothing.
pub returns-then-kind-eq1 : goal.returns-then-kind-eq1
returns-then-kind-eq1 c = operand_value c.args.second _ c.if-kind-eq1.true

pub returns-then-is_target : goal.returns-then-is_target
returns-then-is_target c = operand_target c.args.second c.args.kind (sym c.is_target.ensures ∙ c.if-is_target.true)

pub returns-then-kind-eq3 : goal.returns-then-kind-eq3
returns-then-kind-eq3 c = operand_left c.args.second c.args.kind (sym c.is_target.ensures ∙ c.if-is_target.false) c.if-kind-eq3.true

pub returns : goal.returns
returns c = no_operand c.args.second c.args.kind c.if-kind-eq1.false (sym c.is_target.ensures ∙ c.if-is_target.false) c.if-kind-eq3.false
