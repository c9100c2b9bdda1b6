use Rattle.turns_bed.proofs.Turns.{ended_turn, same_turn, fresh_turn, step_turn}
use borrow.Author.Rules.{rules}
use Rattle.turns_bed.proofs.turn_bed.Goals as goal

-- `turn_bed`: in a program, at the tag, within. Assumes nothing.
pub returns-then-kind-eq28 : goal.returns-then-kind-eq28
returns-then-kind-eq28 c = search (ended_turn, rules)

pub returns-then-reads : goal.returns-then-reads
returns-then-reads c = search (same_turn, rules)

pub returns-then-here-eq6 : goal.returns-then-here-eq6
returns-then-here-eq6 c = search (fresh_turn, rules)

pub returns : goal.returns
returns c = search (step_turn, rules)
