use lib.ListN.{take}
use Rattle.state.specs.Meaning.{Every}
use Rattle.fit.specs.Fit.{SetFits}
use Rattle.fit.proofs.sets_fit.Given as goal

-- The values of every set passed so far fit; the first set with one that does not settles the test.
-- Assumes nothing.
abbrev pub invariant-loop-set : goal.invariant-loop-set
invariant-loop-set l = Every SetFits (take l.set-index l.set-items)
