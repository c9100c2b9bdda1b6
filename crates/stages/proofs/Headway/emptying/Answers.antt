use borrow.Author.Rules.{rules}
use Rattle.stages.proofs.Laws.{emptying_spelled, emptying_whole}
use Rattle.stages.proofs.Headway.emptying.Goals as goal

pub returns-then-long-lt4 : goal.returns-then-long-lt4
returns-then-long-lt4 c = search (emptying_spelled, rules)

pub returns : goal.returns
returns c = search (emptying_whole, rules)
