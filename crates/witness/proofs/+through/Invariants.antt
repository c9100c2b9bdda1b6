use borrow.Author.Rules.{rules}
use native.Mathlib.Omega.{arith}
use Rattle.witness.proofs.+through.Given as goal

-- `through` calls itself on the parts, the nodes falling; each return is a law about a node from its parts.
-- Assumes nothing.
abbrev pub decreases-through : goal.decreases-through
decreases-through l = l.t.nodes
