use Rattle.rowing.proofs.Laws.{part_short, part_full, part_far, part_put}
use borrow.Author.Rules.{rules}
use Rattle.rowing.proofs.part_into.Goals as goal

-- src/lib.rt:12:9
pub returns-then-token-number : goal.returns-then-token-number
returns-then-token-number c = search (part_short, rules)

-- src/lib.rt:15:9
pub returns-then-out-number : goal.returns-then-out-number
returns-then-out-number c = search (part_full, rules)

-- src/lib.rt:19:9
pub returns-then-token-to : goal.returns-then-token-to
returns-then-token-to c = search (part_far, rules)

-- src/lib.rt:7:1
pub returns : goal.returns
returns c = search (part_put, rules)
