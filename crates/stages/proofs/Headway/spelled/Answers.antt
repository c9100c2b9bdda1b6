use borrow.Author.Rules.{rules}
use Rattle.stages.proofs.Fates.{spelled_next, spelled_stuck}
use Rattle.stages.proofs.Headway.spelled.Goals as goal

pub returns-then-b-next : goal.returns-then-b-next
returns-then-b-next c = search (spelled_next, rules)

pub returns : goal.returns
returns c = search (spelled_stuck, rules)
