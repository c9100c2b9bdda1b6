use borrow.Author.Rules.{rules}
use native.Mathlib.Omega.{arith}
use Rattle.witness.proofs.+into.Given as goal

-- `into` calls itself on the parts, the nodes falling; each return is a law about a node from its parts.
-- Assumes nothing.
abbrev pub decreases-into : goal.decreases-into
decreases-into l = l.t.nodes
