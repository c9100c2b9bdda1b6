use mathlib.Core.Path.{sym, ◌∙◌}
use Rattle.programs.specs.Parsed.{which_visit}
use Rattle.scripts.proofs.Answers.{single_operand, single_not, single_open, single_none}
use Rattle.scripts.specs.Scripts.{layers_in, margins_in}
use Rattle.scripts.proofs.Script.single.Goals as goal

-- Each answer by the law that it names. Assumes nothing.
pub returns-then-is_operand : goal.returns-then-is_operand
returns-then-is_operand c = c.staged.ensures ∙ single_operand (which_visit c.args.second) (layers_in c.args.self) (margins_in c.args.self) c.args.kind (sym c.is_operand.ensures ∙ c.if-is_operand.true)

pub returns-then-kind-eq22 : goal.returns-then-kind-eq22
returns-then-kind-eq22 c = c.not.ensures ∙ single_not (which_visit c.args.second) (layers_in c.args.self) (margins_in c.args.self) c.args.kind (sym c.is_operand.ensures ∙ c.if-is_operand.false) c.if-kind-eq22.true

pub returns-then-kind-eq25 : goal.returns-then-kind-eq25
returns-then-kind-eq25 c = c.parenthesis.ensures ∙ single_open (which_visit c.args.second) (layers_in c.args.self) (margins_in c.args.self) c.args.kind (sym c.is_operand.ensures ∙ c.if-is_operand.false) c.if-kind-eq22.false c.if-kind-eq25.true

pub returns : goal.returns
returns c = single_none (which_visit c.args.second) (layers_in c.args.self) (margins_in c.args.self) c.args.kind (sym c.is_operand.ensures ∙ c.if-is_operand.false) c.if-kind-eq22.false c.if-kind-eq25.false
