use Rattle.closings.proofs.Ready.{some_ready, finish_as}
use borrow.Author.Rules.{rules}
use Rattle.closings.proofs.finish.Goals as goal

-- src/lib.rt:71:5
pub bound-requires : goal.bound-requires
bound-requires c = search (some_ready, rules)

-- src/lib.rt:53:1
pub returns : goal.returns
returns c = search (finish_as, rules)
