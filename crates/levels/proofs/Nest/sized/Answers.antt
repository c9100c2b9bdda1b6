use Rattle.levels.proofs.Measuring.{outward_start, outward_on, sized_is, sized_far}
use borrow.Author.Rules.{rules}
use Rattle.levels.proofs.Nest.sized.Goals as goal

pub returns-then-open-gt-DEEPEST : goal.returns-then-open-gt-DEEPEST
returns-then-open-gt-DEEPEST c = search (sized_far, rules)

pub loop-i-init : goal.loop-i-init
loop-i-init c = outward_start _ _ _

pub loop-i-preserved : goal.loop-i-preserved
loop-i-preserved c = search (outward_on, rules)

pub returns : goal.returns
returns c = search (sized_is, rules)
