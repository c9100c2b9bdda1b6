use borrow.Author.Rules.{rules}
use Rattle.rulings.proofs.Rows.{end_told}
use Rattle.rulings.proofs.may_end.Goals as goal

pub returns : goal.returns
returns c = search (end_told, rules)
