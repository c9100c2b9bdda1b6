use Rattle.beds.proofs.Beds.{opened_is, too_deep}
use borrow.Author.Rules.{rules}
use Rattle.beds.proofs.Bed.opened.Goals as goal

-- `Bed::opened`: one pair more around. Assumes nothing.
pub returns-then-open-lt-DEEPEST : goal.returns-then-open-lt-DEEPEST
returns-then-open-lt-DEEPEST c = search (opened_is, rules)

pub returns : goal.returns
returns c = search (too_deep, rules)
