use mathlib.Core.Path.{sym, ◌∙◌}
use Rattle.scripts.proofs.Answers.{taken_if, none_if}
use Rattle.scripts.proofs.Script.assigned.Goals as goal

-- Each answer by the law that it names. Assumes nothing.
pub returns-then-is_operand : goal.returns-then-is_operand
returns-then-is_operand c = c.plain.ensures ∙ taken_if _ _ (sym c.is_operand.ensures ∙ c.if-is_operand.true)

pub returns : goal.returns
returns c = none_if _ _ (sym c.is_operand.ensures ∙ c.if-is_operand.false)
