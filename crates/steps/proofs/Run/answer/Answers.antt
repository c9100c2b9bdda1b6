use mathlib.Core.Path.{◌∙◌, ap, sym}
use Rattle.steps.specs.Parts.{answering_live}
use Rattle.steps.proofs.Run.answer.Goals as goal

-- By whether the acts went on.
-- Assumes nothing.
pub returns-in_default : goal.returns-in_default
returns-in_default c = c.refuse.ensures ∙ ap (answering_live c.args.self) (sym c.in_default.is)

pub returns : goal.returns
returns c = ap (answering_live c.args.self) (sym c.in-Some.is)
