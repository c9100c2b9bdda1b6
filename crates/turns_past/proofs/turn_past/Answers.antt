use Rattle.turns_past.proofs.Laws.{turned_laid, turned_inside, turned_end, turned_early, turned_other}
use borrow.Author.Rules.{rules}
use Rattle.turns_past.proofs.turn_past.Goals as goal

-- src/lib.rt:20:13
pub returns-then-there-eq8 : goal.returns-then-there-eq8
returns-then-there-eq8 c = search (turned_laid, rules)

-- src/lib.rt:22:9
pub returns-then-here-eq7 : goal.returns-then-here-eq7
returns-then-here-eq7 c = search (turned_inside, rules)

-- src/lib.rt:26:13
pub returns-then-here-ge8 : goal.returns-then-here-ge8
returns-then-here-ge8 c = search (turned_end, rules)

-- src/lib.rt:28:9
pub returns-then-kind-eq0 : goal.returns-then-kind-eq0
returns-then-kind-eq0 c = search (turned_early, rules)

-- src/lib.rt:5:1
pub returns : goal.returns
returns c = search (turned_other, rules)
