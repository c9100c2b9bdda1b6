use Rattle.writer.proofs.Lasts.{last_5_none, last_5, last_9_none, last_9, last_7, last_7_long, last_6, last_8, last_other}
use borrow.Author.Rules.{rules}
use Rattle.writer.proofs.last_of.Goals as goal

-- src/lib.rt:68:13
pub returns-then-number-eq0 : goal.returns-then-number-eq0
returns-then-number-eq0 c = search (last_5_none, rules)

-- src/lib.rt:70:9
pub returns-then-kind-eq5 : goal.returns-then-kind-eq5
returns-then-kind-eq5 c = search (last_5, rules)

-- src/lib.rt:74:13
pub returns-then-long-eq0 : goal.returns-then-long-eq0
returns-then-long-eq0 c = search (last_9_none, rules)

-- src/lib.rt:76:9
pub returns-then-kind-eq9 : goal.returns-then-kind-eq9
returns-then-kind-eq9 c = search (last_9, rules)

-- src/lib.rt:80:13
pub returns-then-number-lt16 : goal.returns-then-number-lt16
returns-then-number-lt16 c = search (last_7, rules)

-- src/lib.rt:82:9
pub returns-then-kind-eq7 : goal.returns-then-kind-eq7
returns-then-kind-eq7 c = search (last_7_long, rules)

-- src/lib.rt:85:9
pub returns-then-kind-eq6 : goal.returns-then-kind-eq6
returns-then-kind-eq6 c = search (last_6, rules)

-- src/lib.rt:88:9
pub returns-then-kind-eq8 : goal.returns-then-kind-eq8
returns-then-kind-eq8 c = search (last_8, rules)

-- src/lib.rt:63:1
pub returns : goal.returns
returns c = search (last_other, rules)
