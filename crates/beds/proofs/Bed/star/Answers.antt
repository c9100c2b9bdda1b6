use Rattle.beds.proofs.Beds.{star_is}
use borrow.Author.Rules.{rules}
use Rattle.beds.proofs.Bed.star.Goals as goal

-- `Bed::star`: a node in front of the operand. Assumes nothing.
pub returns : goal.returns
returns c = search (star_is, rules)
