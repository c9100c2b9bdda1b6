use Rattle.turns_ink.proofs.Turns.{low_turn, item_turn, same_turn, high_turn, fresh_turn}
use borrow.Author.Rules.{rules}
use Rattle.turns_ink.proofs.turn_ink.Goals as goal

-- `turn_ink`: by the kind of the token, and outside programs. Assumes nothing.
pub returns-then-kind-lt6 : goal.returns-then-kind-lt6
returns-then-kind-lt6 c = search (low_turn, rules)

pub returns-then-kind-lt10 : goal.returns-then-kind-lt10
returns-then-kind-lt10 c = search (item_turn, rules)

pub returns-then-kind-eq28 : goal.returns-then-kind-eq28
returns-then-kind-eq28 c = search (same_turn, rules)

pub returns-then-reads : goal.returns-then-reads
returns-then-reads c = search (high_turn, rules)

pub returns : goal.returns
returns c = search (fresh_turn, rules)
