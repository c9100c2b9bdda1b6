use Rattle.fit.proofs.+walk.Given as goal

-- `walk` calls itself on the trees behind a node, the nodes left falling; each return is one law about what is found at a node from what was
-- found behind it.
-- Assumes nothing.
abbrev pub decreases-walk : goal.decreases-walk
decreases-walk l = l.left
