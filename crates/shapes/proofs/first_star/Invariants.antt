use Rattle.shapes.proofs.Walks.{StarsSo}
use Rattle.shapes.proofs.first_star.Given as goal

-- No production passed so far is a star of the nonterminal; the first that is settles it.
-- Assumes nothing.
abbrev pub invariant-loop-q : goal.invariant-loop-q
invariant-loop-q l = StarsSo l.s l.n l.q
