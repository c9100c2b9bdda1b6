use borrow.Author.Rules.{rules}
use Rattle.paces.proofs.Laws.{wanted_leaf, wanted_brace, wanted_open}
use Rattle.paces.proofs.moves.wanted.Goals as goal

pub returns-then-b-2 : goal.returns-then-b-2
returns-then-b-2 c = search (wanted_brace, rules)

pub returns-in-Leaf : goal.returns-in-Leaf
returns-in-Leaf c = search (wanted_leaf, rules)

pub returns-in-Open : goal.returns-in-Open
returns-in-Open c = search (wanted_open, rules)
