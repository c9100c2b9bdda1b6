use borrow.Author.Rules.{rules}
use native.Mathlib.Omega.{arith}
use Rattle.shortest.proofs.+up_to.Given as goal

-- `up_to` calls itself on the part that has the atom, the nodes falling; each return is a law about a node from its parts.
-- Assumes nothing.
abbrev pub decreases-up_to : goal.decreases-up_to
decreases-up_to l = l.t.nodes
