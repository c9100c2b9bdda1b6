use Prim.Native.Nat.{◌<◌}
use Rattle.std.specs.Prelude.{IfSome}
use Rattle.shapes.proofs.Walks.{TagsSo}
use Rattle.shapes.proofs.only_tag.Given as goal

-- What is seen of the nonterminal's tags before a production: none, or one; a second settles it.
-- Assumes nothing.
abbrev pub invariant-loop-q : goal.invariant-loop-q
invariant-loop-q l = IfSome l.seen (λ i. i < 256) × TagsSo l.s l.n l.q l.seen
