use borrow.Author.Rules.{rules}
use Rattle.strata.proofs.Laws.{marking_mark, marking_none}
use Rattle.strata.proofs.marking.Goals as goal

pub returns-then-is_mark : goal.returns-then-is_mark
returns-then-is_mark c = search (marking_mark, rules)

pub returns : goal.returns
returns c = search (marking_none, rules)
