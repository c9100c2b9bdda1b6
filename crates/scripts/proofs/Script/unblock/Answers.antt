use mathlib.Core.Path.{sym, ◌∙◌, ap}
use Rattle.scripts.specs.Scripts.{unblocked_as}
use Rattle.scripts.proofs.Script.unblock.Goals as goal

-- Each answer by the law that it names. Assumes nothing.
pub returns : goal.returns
returns c = c.ended.ensures ∙ ap unblocked_as (sym c.close-closed.ensures.whole_is)
