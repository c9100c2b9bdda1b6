use Rattle.ways.proofs.+through.Given as goal

-- `through` calls itself on the parts, the nodes falling; each return is a law about a node's way from its parts'.
-- Assumes nothing.
abbrev pub decreases-through : goal.decreases-through
decreases-through l = l.t.nodes
