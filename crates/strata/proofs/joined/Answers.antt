use borrow.Author.Rules.{rules}
use Rattle.strata.proofs.Laws.{join_refused, join_more}
use Rattle.strata.proofs.joined.Goals as goal

pub returns-then-here-other : goal.returns-then-here-other
returns-then-here-other c = search (join_refused, rules)

pub returns : goal.returns
returns c = search (join_more, rules)
