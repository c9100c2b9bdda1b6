use mathlib.Core.Path.{◌∙◌}
use Rattle.programs.specs.Parsed.{which_visit}
use Rattle.scripts.proofs.Answers.{equals_sign, equals_none}
use Rattle.scripts.specs.Scripts.{layers_in, margins_in}
use Rattle.scripts.proofs.Script.equals.Goals as goal

-- Each answer by the law that it names. Assumes nothing.
pub returns-then-kind-eq33 : goal.returns-then-kind-eq33
returns-then-kind-eq33 c = c.staged.ensures ∙ equals_sign (which_visit c.args.second) (layers_in c.args.self) (margins_in c.args.self) c.args.kind c.if-kind-eq33.true

pub returns : goal.returns
returns c = equals_none (which_visit c.args.second) (layers_in c.args.self) (margins_in c.args.self) c.args.kind c.if-kind-eq33.false
