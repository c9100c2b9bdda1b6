use borrow.Author.Rules.{rules}
use Rattle.paces.proofs.Laws.{dotted_of}
use Rattle.paces.proofs.moves.dotted.Goals as goal

pub returns : goal.returns
returns c = search (dotted_of, rules)
