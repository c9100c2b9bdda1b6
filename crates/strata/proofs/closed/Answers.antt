use borrow.Author.Rules.{rules}
use Rattle.strata.proofs.Laws.{closes_all, closes_inner}
use Rattle.strata.proofs.closed.Goals as goal

pub returns-then-nest-eq0 : goal.returns-then-nest-eq0
returns-then-nest-eq0 c = search (closes_all, rules)

pub returns : goal.returns
returns c = search (closes_inner, rules)
