use Rattle.sights.proofs.Rulings.{somewhere_first, whole_told}
use borrow.Author.Rules.{rules}
use Rattle.sights.proofs.judge.Goals as goal

-- All of a text is its rest, from the first reader on. Assumes nothing.
pub judge_rest-requires : goal.judge_rest-requires
judge_rest-requires c = search (somewhere_first, rules)

pub returns : goal.returns
returns c = search (whole_told, rules)
