use Rattle.ways.proofs.+into.Given as goal

-- `into` calls itself on the parts, the nodes falling; each return is a law about a node's way from its parts'.
-- Assumes nothing.
abbrev pub decreases-into : goal.decreases-into
decreases-into l = l.t.nodes
