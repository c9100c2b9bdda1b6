use borrow.Author.Rules.{rules}
use Rattle.drafts.proofs.Laws.{opened_yes, length_of_mapped, opened_no}
use Rattle.drafts.proofs.opened.Goals as goal

pub returns-then-open-lt32 : goal.returns-then-open-lt32
returns-then-open-lt32 c = search (opened_yes, length_of_mapped, rules)

pub returns : goal.returns
returns c = search (opened_no, rules)
