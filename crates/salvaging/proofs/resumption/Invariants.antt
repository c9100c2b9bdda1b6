use Rattle.salvaging.specs.Resumed.{ApartUpTo}
use Rattle.salvaging.proofs.resumption.Given as goal

-- The loop keeps that the part is apart from both words at each place passed so far.
abbrev pub invariant-loop-at : goal.invariant-loop-at
invariant-loop-at l = ApartUpTo l.first l.second l.part l.from l.at
