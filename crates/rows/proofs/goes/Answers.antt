use Rattle.rows.proofs.Rows.{move_as_lem}
use borrow.Author.Rules.{rules}
use Rattle.rows.proofs.goes.Goals as goal

-- Only what is refused is no move.
pub returns-in-Refused : goal.returns-in-Refused
returns-in-Refused c = search (move_as_lem, rules)

pub returns-in-To : goal.returns-in-To
returns-in-To c = search (move_as_lem, rules)

pub returns-in-Opened : goal.returns-in-Opened
returns-in-Opened c = search (move_as_lem, rules)

pub returns-in-Closed : goal.returns-in-Closed
returns-in-Closed c = search (move_as_lem, rules)

pub returns-in-Emptied : goal.returns-in-Emptied
returns-in-Emptied c = search (move_as_lem, rules)

pub returns-in-Next : goal.returns-in-Next
returns-in-Next c = search (move_as_lem, rules)
