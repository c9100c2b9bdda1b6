use Rattle.trees.proofs.+spread.Given as goal

-- `spread` calls itself on the trees behind a node, the nodes left falling; each return is one law about what the parts' counts come to.
-- Assumes nothing.
abbrev pub decreases-spread : goal.decreases-spread
decreases-spread l = l.left
