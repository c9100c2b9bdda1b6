use borrow.Author.Rules.{rules}
use native.Mathlib.Omega.{arith}
use Rattle.shortest.proofs.+word.Given as goal

-- `word` calls itself on the parts, the nodes falling; each return is a law about a node from its parts.
-- Assumes nothing.
abbrev pub decreases-word : goal.decreases-word
decreases-word l = l.t.nodes
