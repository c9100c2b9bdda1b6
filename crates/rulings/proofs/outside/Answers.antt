use mathlib.Core.Path.{subst}
use borrow.Author.Rules.{rules}
use Rattle.drafts.specs.Drafted.{DraftStepIs}
use Rattle.rulings.proofs.Answers.{outside_takes, outside_refuses}
use Rattle.rulings.proofs.outside.Goals as goal

pub returns-in_default : goal.returns-in_default
returns-in_default c = outside_refuses c.args.r c.args.kind c.requires (subst (DraftStepIs c.args.r.draft c.args.kind) c.in_default.is c.step.ensures)

pub returns : goal.returns
returns c = outside_takes c.args.r c.args.kind _ _ c.requires (subst (DraftStepIs c.args.r.draft c.args.kind) c.in-Some.is c.step.ensures) (search rules)
