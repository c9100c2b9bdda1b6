use borrow.Author.Rules.{rules}
use Rattle.drafts.proofs.Laws.{closed_last, closed_more}
use Rattle.drafts.proofs.closed.Goals as goal

pub returns-then-open-eq0 : goal.returns-then-open-eq0
returns-then-open-eq0 c = search (closed_last, rules)

pub returns : goal.returns
returns c = search (closed_more, rules)
