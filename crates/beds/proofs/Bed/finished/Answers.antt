use Rattle.beds.proofs.Beds.{finished_is}
use borrow.Author.Rules.{rules}
use Rattle.beds.proofs.Bed.finished.Goals as goal

-- `Bed::finished`: the nodes of the content. Assumes nothing.
pub returns : goal.returns
returns c = search (finished_is, rules)
