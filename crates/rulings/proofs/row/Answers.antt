use borrow.Author.Rules.{rules}
use Rattle.rulings.proofs.Rows.{row_in_text, row_in_program}
use Rattle.rulings.proofs.row.Goals as goal

pub returns-then-w : goal.returns-then-w
returns-then-w c = search (row_in_program, rules)

pub returns : goal.returns
returns c = search (row_in_text, rules)
