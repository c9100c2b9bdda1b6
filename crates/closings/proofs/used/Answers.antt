use Rattle.closings.proofs.Sections.{used_none, used_some}
use borrow.Author.Rules.{rules}
use Rattle.closings.proofs.used.Goals as goal

-- src/lib.rt:12:9
pub returns-then-count-eq0 : goal.returns-then-count-eq0
returns-then-count-eq0 c = search (used_none, rules)

-- src/lib.rt:7:1
pub returns : goal.returns
returns c = search (used_some, rules)
