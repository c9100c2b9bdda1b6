use borrow.Author.Rules.{rules}
use Rattle.glances.proofs.Laws.{condition_end}
use Rattle.glances.proofs.past_condition.Goals as goal

-- What the condition comes to ends where it ends.
pub returns : goal.returns
returns c = condition_end c.args.s.now c.args.i _ _ _ c.condition-c.ensures
