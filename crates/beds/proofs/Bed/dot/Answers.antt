use Rattle.beds.proofs.Beds.{dot_is}
use borrow.Author.Rules.{rules}
use Rattle.beds.proofs.Bed.dot.Goals as goal

-- `Bed::dot`: a node in front of the concatenation. Assumes nothing.
pub returns : goal.returns
returns c = search (dot_is, rules)
