use mathlib.Core.Path.{◌∙◌, ap}
use Rattle.scripts.proofs.Answers.{with_stage}
use Rattle.extents.proofs.Parts.{extent_same}
use Rattle.scripts.specs.Scripts.{layers_in}
use Rattle.outlines.specs.Statements.{past}
use mathlib.Core.Bool.{true}
use Rattle.scripts.proofs.Script.more.Goals as goal

-- Each answer by the law that it names. Assumes nothing.
pub returns : goal.returns
returns c = c.staged.ensures ∙ with_stage (layers_in c.args.self) (ap (past true) (extent_same c.in_turn-e.ensures))
