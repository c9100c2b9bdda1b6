use mathlib.Core.Path.{sym, ◌∙◌, ap}
use Rattle.scripts.specs.Scripts.{separated_as}
use Rattle.scripts.proofs.Script.separate.Goals as goal

-- Each answer by the law that it names. Assumes nothing.
pub returns : goal.returns
returns c = c.layered.ensures ∙ ap separated_as (sym c.close-closed.ensures.whole_is)
