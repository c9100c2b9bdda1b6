use Rattle.beds.proofs.Rows.{no_room, past_end, node_in}
use borrow.Author.Rules.{rules}
use Rattle.beds.proofs.Row.with_node.Goals as goal

-- `Row::with_node`: the new node, and what stood there behind it. Assumes nothing.
pub returns-then-n : goal.returns-then-n
returns-then-n c = search (no_room, rules)

pub returns-then-at-n : goal.returns-then-at-n
returns-then-at-n c = search (past_end, rules)

pub returns : goal.returns
returns c = search (node_in, rules)
