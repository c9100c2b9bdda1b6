use Rattle.unquoting.proofs.Reading.{un_tab, un_feed, un_return, un_self}
use borrow.Author.Rules.{rules}
use Rattle.unquoting.proofs.unescape.Goals as goal

-- src/lib.rt:12:9
pub returns-then-b-eq116 : goal.returns-then-b-eq116
returns-then-b-eq116 c = search (un_tab, rules)

-- src/lib.rt:15:9
pub returns-then-b-eq110 : goal.returns-then-b-eq110
returns-then-b-eq110 c = search (un_feed, rules)

-- src/lib.rt:18:9
pub returns-then-b-eq114 : goal.returns-then-b-eq114
returns-then-b-eq114 c = search (un_return, rules)

-- src/lib.rt:8:1
pub returns : goal.returns
returns c = search (un_self, rules)
