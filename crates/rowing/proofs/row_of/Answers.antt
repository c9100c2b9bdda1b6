use Rattle.rowing.proofs.Laws.{row_string, row_program, row_five, row_seven, row_other}
use borrow.Author.Rules.{rules}
use Rattle.rowing.proofs.row_of.Goals as goal

-- src/lib.rt:30:9
pub returns-then-kind-eq9 : goal.returns-then-kind-eq9
returns-then-kind-eq9 c = search (row_string, rules)

-- src/lib.rt:36:9
pub returns-then-kind-eq28 : goal.returns-then-kind-eq28
returns-then-kind-eq28 c = search (row_program, rules)

-- src/lib.rt:39:9
pub returns-then-kind-eq5 : goal.returns-then-kind-eq5
returns-then-kind-eq5 c = search (row_five, rules)

-- src/lib.rt:42:9
pub returns-then-kind-eq7 : goal.returns-then-kind-eq7
returns-then-kind-eq7 c = search (row_seven, rules)

-- src/lib.rt:25:1
pub returns : goal.returns
returns c = search (row_other, rules)
