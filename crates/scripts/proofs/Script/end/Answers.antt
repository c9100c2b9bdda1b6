use mathlib.Core.Path.{◌∙◌}
use Rattle.scripts.proofs.Answers.{end_opening, end_separated, end_branching}
use Rattle.scripts.specs.Scripts.{layers_in}
use Rattle.scripts.proofs.Script.end.Goals as goal

-- Each answer by the law that it names. Assumes nothing.
pub returns-in-Opening : goal.returns-in-Opening
returns-in-Opening c = c.ended.ensures ∙ end_opening _ (layers_in c.args.self) _ c.in-Opening.is c.close-closed.ensures.whole_is

pub returns-in-Separated : goal.returns-in-Separated
returns-in-Separated c = end_separated _ (layers_in c.args.self) c.in-Separated.is

pub returns-in-Branching : goal.returns-in-Branching
returns-in-Branching c = end_branching _ (layers_in c.args.self) c.in-Branching.is
