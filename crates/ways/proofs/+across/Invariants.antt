use Rattle.ways.proofs.+across.Given as goal

-- `across` calls itself on the parts, the nodes falling; each return is a law about a node's way from its parts'.
-- Assumes nothing.
abbrev pub decreases-across : goal.decreases-across
decreases-across l = l.t.nodes
