use Rattle.levels.proofs.Laws.{push_is, push_far}
use Rattle.extents.proofs.Parts.{length_of_structs}
use borrow.Author.Rules.{rules}
use Rattle.levels.proofs.Nest.push.Goals as goal

-- `Nest::push`: one level more around. Assumes nothing.
pub returns-then-open-lt-DEEPEST : goal.returns-then-open-lt-DEEPEST
returns-then-open-lt-DEEPEST c = search (push_is, length_of_structs, rules)

pub returns : goal.returns
returns c = search (push_far, rules)
