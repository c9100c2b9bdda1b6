use mathlib.Core.Path.{◌∙◌}
use Rattle.scripts.proofs.Answers.{begin_opening, begin_separated, begin_branching}
use Rattle.scripts.specs.Scripts.{layers_in}
use Rattle.scripts.proofs.Script.begin.Goals as goal

-- Each answer by the law that it names. Assumes nothing.
pub returns-in-Opening : goal.returns-in-Opening
returns-in-Opening c = begin_opening _ (layers_in c.args.self) c.in-Opening.is

pub returns-in-Separated : goal.returns-in-Separated
returns-in-Separated c = begin_separated _ (layers_in c.args.self) c.in-Separated.is

pub returns-in-Branching : goal.returns-in-Branching
returns-in-Branching c = c.layered.ensures ∙ begin_branching _ (layers_in c.args.self) c.in-Branching.is
