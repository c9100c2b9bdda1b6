use borrow.Author.Rules.{rules}
use Rattle.stages.proofs.Fates.{longer_more, longer_full}
use Rattle.stages.proofs.Headway.longer.Goals as goal

pub returns-then-long-lt-LONGEST : goal.returns-then-long-lt-LONGEST
returns-then-long-lt-LONGEST c = search (longer_more, rules)

pub returns : goal.returns
returns c = search (longer_full, rules)
