use Rattle.beds.proofs.Beds.{bar_is}
use borrow.Author.Rules.{rules}
use Rattle.beds.proofs.Bed.bar.Goals as goal

-- `Bed::bar`: a node in front of the union. Assumes nothing.
pub returns : goal.returns
returns c = search (bar_is, rules)
