use Rattle.shapes.proofs.Telling.{AllSo}
use Rattle.shapes.proofs.all_shaped.Given as goal

-- Each production passed so far has its part; the first that has not settles it.
-- Assumes nothing.
abbrev pub invariant-loop-q : goal.invariant-loop-q
invariant-loop-q l = AllSo l.s l.start l.n l.t l.r l.q
