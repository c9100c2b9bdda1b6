use Rattle.beds.proofs.Beds.{settled_fronted, settled_plain}
use borrow.Author.Rules.{rules}
use Rattle.beds.proofs.Bed.settled.Goals as goal

-- `Bed::settled`: with a program in front, and without. Assumes nothing.
pub returns-then-here : goal.returns-then-here
returns-then-here c = search (settled_fronted, rules)

pub returns : goal.returns
returns c = search (settled_plain, rules)
