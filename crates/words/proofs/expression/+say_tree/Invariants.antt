use Rattle.words.proofs.expression.+say_tree.Given as goal

-- `say_tree` calls itself on the trees behind a node, the nodes left falling: the tree behind it ends past the node.
abbrev pub decreases-say_tree : goal.decreases-say_tree
decreases-say_tree l = l.left
