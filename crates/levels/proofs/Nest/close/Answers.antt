use Rattle.levels.proofs.Laws.{close_last, close_far, close_is}
use Rattle.extents.proofs.Parts.{length_of_structs}
use borrow.Author.Rules.{rules}
use Rattle.levels.proofs.Nest.close.Goals as goal

-- `Nest::close`: the content's own pair, and a pair inside another. Assumes nothing.
pub returns-then-open-eq0 : goal.returns-then-open-eq0
returns-then-open-eq0 c = search (close_last, rules)

pub returns-then-open-gt-DEEPEST : goal.returns-then-open-gt-DEEPEST
returns-then-open-gt-DEEPEST c = search (close_far, rules)

pub returns : goal.returns
returns c = search (close_is, length_of_structs, rules)
