use mathlib.Core.Path.{◌∙◌, ap}
use Rattle.scripts.specs.Scripts.{layers_in}
use Rattle.outlines.specs.Statements.{wrapped_in}
use Rattle.scripts.proofs.Script.measure.Goals as goal

-- Each answer by the law that it names. Assumes nothing.
pub kernel-e-requires : goal.kernel-e-requires
kernel-e-requires c = c.requires

pub wrap_all-requires : goal.wrap_all-requires
wrap_all-requires c = record { n_le_most_around = c.requires.low; layers_under = c.requires.small.around; extent_under = c.kernel-e.ensures.1 }

pub returns : goal.returns
returns c = c.wrap_all.ensures ∙ ap (wrapped_in (layers_in c.args.self)) c.kernel-e.ensures.0
