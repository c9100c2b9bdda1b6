use Rattle.rows.proofs.Rows.{could_as, could_single, could_follow}
use borrow.Author.Rules.{rules}
use Rattle.rows.proofs.could.Goals as goal

-- Each stage has its kinds.
pub returns-in-At : goal.returns-in-At
returns-in-At c = search (could_as, rules)

pub returns-in-Assign : goal.returns-in-Assign
returns-in-Assign c = search (could_as, rules)

pub returns-in-Operand : goal.returns-in-Operand
returns-in-Operand c = search (could_as, rules)

pub returns-in-Item : goal.returns-in-Item
returns-in-Item c = search (could_as, rules)

pub returns-in-Single : goal.returns-in-Single
returns-in-Single c = search (could_single, rules)

pub returns-in-Equals : goal.returns-in-Equals
returns-in-Equals c = search (could_as, rules)

pub returns-in-Other : goal.returns-in-Other
returns-in-Other c = search (could_as, rules)

pub returns-in-Behind : goal.returns-in-Behind
returns-in-Behind c = search (could_as, rules)

pub returns-in-Past : goal.returns-in-Past
returns-in-Past c = search (could_follow, rules)
