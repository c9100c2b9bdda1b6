use Rattle.beds.proofs.Pieces.{unbraced_behind, unbraced_front}
use borrow.Author.Rules.{rules}
use Rattle.beds.proofs.Bed.unbraced.Goals as goal

-- `Bed::unbraced`: the program behind, and in front. Assumes nothing.
pub returns-then-second : goal.returns-then-second
returns-then-second c = search (unbraced_behind, rules)

pub returns : goal.returns
returns c = search (unbraced_front, rules)
