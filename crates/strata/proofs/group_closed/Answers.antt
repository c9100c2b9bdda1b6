use borrow.Author.Rules.{rules}
use Rattle.strata.proofs.Laws.{group_mark, group_none}
use Rattle.strata.proofs.group_closed.Goals as goal

pub returns-then-is_mark : goal.returns-then-is_mark
returns-then-is_mark c = search (group_mark, rules)

pub returns : goal.returns
returns c = search (group_none, rules)
