use borrow.Author.Rules.{rules}
use Rattle.paces.proofs.Laws.{backed_second, backed_once, backed_bare}
use Rattle.paces.proofs.moves.backed.Goals as goal

pub returns-then-e : goal.returns-then-e
returns-then-e c = search (backed_second, rules)

pub returns-then-before : goal.returns-then-before
returns-then-before c = search (backed_once, rules)

pub returns : goal.returns
returns c = search (backed_bare, rules)
