use Rattle.slips.proofs.Tests.{turned_inside, turned_first, turned_next, turned_name, turned_other, turned_front, turned_back, turned_nowhere}
use borrow.Author.Rules.{rules}
use Rattle.slips.proofs.turn.Goals as goal

-- src/lib.rt:44:13
pub returns-then-here-eq7 : goal.returns-then-here-eq7
returns-then-here-eq7 c = search (turned_inside, rules)

-- src/lib.rt:47:13
pub returns-then-here-eq0 : goal.returns-then-here-eq0
returns-then-here-eq0 c = search (turned_first, rules)

-- src/lib.rt:55:9
pub returns-then-kind-eq0 : goal.returns-then-kind-eq0
returns-then-kind-eq0 c = search (turned_next, rules)

-- src/lib.rt:64:9
pub returns-then-kind-eq5 : goal.returns-then-kind-eq5
returns-then-kind-eq5 c = search (turned_name, rules)

-- src/lib.rt:73:9
pub returns-then-kind-ne28 : goal.returns-then-kind-ne28
returns-then-kind-ne28 c = search (turned_other, rules)

-- src/lib.rt:76:9
pub returns-then-here-eq4 : goal.returns-then-here-eq4
returns-then-here-eq4 c = search (turned_front, rules)

-- src/lib.rt:85:9
pub returns-then-here-eq9 : goal.returns-then-here-eq9
returns-then-here-eq9 c = search (turned_back, rules)

-- src/lib.rt:39:1
pub returns : goal.returns
returns c = search (turned_nowhere, rules)
