use Rattle.ways.proofs.+out_of.Given as goal

-- `out_of` calls itself on the parts, the nodes falling; each return is a law about a node's way from its parts'.
-- Assumes nothing.
abbrev pub decreases-out_of : goal.decreases-out_of
decreases-out_of l = l.t.nodes
