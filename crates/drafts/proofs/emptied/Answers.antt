use borrow.Author.Rules.{rules}
use Rattle.drafts.proofs.Laws.{emptied_last, emptied_more}
use Rattle.drafts.proofs.emptied.Goals as goal

pub returns-then-d-eq0 : goal.returns-then-d-eq0
returns-then-d-eq0 c = search (emptied_last, rules)

pub returns : goal.returns
returns c = search (emptied_more, rules)
