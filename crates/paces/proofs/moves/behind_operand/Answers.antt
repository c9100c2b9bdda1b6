use borrow.Author.Rules.{rules}
use Rattle.paces.proofs.Laws.{operand_star, operand_dot, operand_bar, operand_close, operand_brace, operand_leaf, operand_open, operand_other}
use Rattle.paces.proofs.moves.behind_operand.Goals as goal

pub returns-in-Star : goal.returns-in-Star
returns-in-Star c = search (operand_star, rules)

pub returns-in-Dot : goal.returns-in-Dot
returns-in-Dot c = search (operand_dot, rules)

pub returns-in-Bar : goal.returns-in-Bar
returns-in-Bar c = search (operand_bar, rules)

pub returns-in-Close : goal.returns-in-Close
returns-in-Close c = search (operand_close, rules)

pub returns-in-Brace : goal.returns-in-Brace
returns-in-Brace c = search (operand_brace, rules)

pub returns-in-Leaf : goal.returns-in-Leaf
returns-in-Leaf c = search (operand_leaf, rules)

pub returns-in-Open : goal.returns-in-Open
returns-in-Open c = search (operand_open, rules)

pub returns-in-Other : goal.returns-in-Other
returns-in-Other c = search (operand_other, rules)
