use mathlib.Core.Path.{refl, ◌∙◌, ap}
use native.Mathlib.Omega.{arith}
use Rattle.scripts.specs.declared.Stage.TheVariants.{At, Past}
use Rattle.scripts.proofs.Standings.{steady, firmly, past_extent, ends_as, small_extent}
use Rattle.scripts.proofs.Script.ends.Goals as goal

-- Each answer by the law that it names. Assumes nothing.
pub outermost-requires : goal.outermost-requires
outermost-requires c = record { layer_room = steady c.args.self c.requires; extent_under = small_extent 1000 0 _ refl (omega arith) }

pub outermost-requires-in-Past : goal.outermost-requires-in-Past
outermost-requires-in-Past c = record { layer_room = steady c.args.self c.requires; extent_under = past_extent c.args.self (firmly c.args.self c.requires) _ _ c.in-Past.is }

pub returns-in-Opening : goal.returns-in-Opening
returns-in-Opening c = c.outermost.ensures ∙ ends_as c.args.self (At _) (c.in-At.is ∙ ap At c.in-Opening.is)

pub returns-in-Past : goal.returns-in-Past
returns-in-Past c = c.outermost-in-Past.ensures ∙ ends_as c.args.self (Past _ _) c.in-Past.is
