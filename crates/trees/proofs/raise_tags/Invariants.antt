use Rattle.trees.specs.Tally.{count_of}
use Rattle.trees.proofs.Alikes.{RaisedBelow}
use Rattle.trees.proofs.raise_tags.Given as goal

-- `raise_tags` raises the sums that it passes.
-- Assumes nothing.
abbrev pub invariant-loop-t : goal.invariant-loop-t
invariant-loop-t l = RaisedBelow l.known l.m (count_of l.n) l.t l.initial.sums l.sums
