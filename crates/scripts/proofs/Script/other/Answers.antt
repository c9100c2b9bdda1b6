use mathlib.Core.Path.{sym, ◌∙◌}
use Rattle.programs.specs.Parsed.{which_visit}
use Rattle.scripts.proofs.Answers.{other_operand, other_none}
use Rattle.scripts.specs.Scripts.{layers_in, margins_in}
use Rattle.scripts.proofs.Script.other.Goals as goal

-- Each answer by the law that it names. Assumes nothing.
pub returns-then-is_operand : goal.returns-then-is_operand
returns-then-is_operand c = c.got.ensures ∙ other_operand (which_visit c.args.second) (layers_in c.args.self) (margins_in c.args.self) c.args.kind (sym c.is_operand.ensures ∙ c.if-is_operand.true)

pub returns : goal.returns
returns c = other_none (which_visit c.args.second) (layers_in c.args.self) (margins_in c.args.self) c.args.kind (sym c.is_operand.ensures ∙ c.if-is_operand.false)
