use Rattle.trees.proofs.+walk_tree.Given as goal

-- `walk_tree` calls itself on the trees behind a node, the nodes left falling; each return is one law about a node's counts from its parts'.
-- Assumes nothing.
abbrev pub decreases-walk_tree : goal.decreases-walk_tree
decreases-walk_tree l = l.left
