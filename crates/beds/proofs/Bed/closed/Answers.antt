use Rattle.beds.proofs.Beds.{closed_far, closed_last, closed_is}
use borrow.Author.Rules.{rules}
use Rattle.beds.proofs.Bed.closed.Goals as goal

-- `Bed::closed`: back to the pair around. Assumes nothing.
pub returns-then-open-gt-DEEPEST : goal.returns-then-open-gt-DEEPEST
returns-then-open-gt-DEEPEST c = search (closed_far, rules)

pub returns-then-open-eq0 : goal.returns-then-open-eq0
returns-then-open-eq0 c = search (closed_last, rules)

pub returns : goal.returns
returns c = search (closed_is, rules)
