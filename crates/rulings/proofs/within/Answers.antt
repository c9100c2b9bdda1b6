use mathlib.Core.Path.{subst}
use Rattle.programs.specs.Parsed.{which_visit}
use Rattle.scripts.specs.Scripts.{Stepped}
use Rattle.rulings.proofs.Answers.{within_takes, within_refuses}
use Rattle.rulings.proofs.within.Goals as goal

pub returns-in_default : goal.returns-in_default
returns-in_default c = within_refuses c.args.r c.args.kind c.args.second c.requires (subst (Stepped (which_visit c.args.second) c.args.r.script c.args.kind) c.in_default.is c.step.ensures)

pub returns : goal.returns
returns c = within_takes c.args.r c.args.kind c.args.second _ c.requires (subst (Stepped (which_visit c.args.second) c.args.r.script c.args.kind) c.in-Some.is c.step.ensures)
