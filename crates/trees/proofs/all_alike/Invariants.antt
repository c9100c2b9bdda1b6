use Rattle.trees.proofs.Alikes.{CountedBefore}
use Rattle.trees.proofs.all_alike.Given as goal

-- `all_alike` counts the productions that it passes, each in its cell.
-- Assumes nothing.
abbrev pub invariant-loop-q : goal.invariant-loop-q
invariant-loop-q l = CountedBefore l.s l.q l.known
