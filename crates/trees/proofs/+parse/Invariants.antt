use Rattle.trees.proofs.+parse.Given as goal

-- `parse` calls itself on the trees behind a node, the nodes left falling; each return is one law about what a node and the trees behind it are.
-- Assumes nothing.
abbrev pub decreases-parse : goal.decreases-parse
decreases-parse l = l.left
