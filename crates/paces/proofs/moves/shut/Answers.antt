use borrow.Author.Rules.{rules}
use Rattle.paces.proofs.Laws.{shut_once, shut_bare}
use Rattle.paces.proofs.moves.shut.Goals as goal

pub returns-then-before : goal.returns-then-before
returns-then-before c = search (shut_once, rules)

pub returns : goal.returns
returns c = search (shut_bare, rules)
