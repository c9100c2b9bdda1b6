use borrow.Author.Rules.{rules}
use native.Mathlib.Omega.{arith}
use Rattle.signs.proofs.+written_before.Given as goal

-- `written_before` calls itself on the parts, the nodes falling; each return is a law about a node from its parts. Assumes nothing.
abbrev pub decreases-written_before : goal.decreases-written_before
decreases-written_before l = l.t.nodes
