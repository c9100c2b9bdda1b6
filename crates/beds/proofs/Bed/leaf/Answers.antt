use Rattle.beds.proofs.Beds.{leaf_is}
use borrow.Author.Rules.{rules}
use Rattle.beds.proofs.Bed.leaf.Goals as goal

-- `Bed::leaf`: a node behind all. Assumes nothing.
pub returns : goal.returns
returns c = search (leaf_is, rules)
