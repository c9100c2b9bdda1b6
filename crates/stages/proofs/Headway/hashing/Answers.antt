use borrow.Author.Rules.{rules}
use Rattle.stages.proofs.Laws.{hashing_spelled, hashing_whole}
use Rattle.stages.proofs.Headway.hashing.Goals as goal

pub returns-then-long-lt6 : goal.returns-then-long-lt6
returns-then-long-lt6 c = search (hashing_spelled, rules)

pub returns : goal.returns
returns c = search (hashing_whole, rules)
