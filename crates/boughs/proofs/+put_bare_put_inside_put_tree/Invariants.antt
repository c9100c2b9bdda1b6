use borrow.Author.Rules.{rules}
use Prim.Native.Nat.{◌+◌, ◌*◌}
use native.Mathlib.Omega.{arith}
use Rattle.boughs.proofs.+put_bare_put_inside_put_tree.Given as goal

-- The nodes left fall: a tree is put with its programs at the same node, that without them, and this puts trees past its first node; hence three times
-- the nodes left, with two more for a tree and one for a tree with its programs. What is written is put together from what the parts wrote.
-- Assumes nothing.
abbrev pub decreases-put_bare : goal.decreases-put_bare
decreases-put_bare l = 3 * l.left

abbrev pub decreases-put_inside : goal.decreases-put_inside
decreases-put_inside l = 3 * l.left + 1

abbrev pub decreases-put_tree : goal.decreases-put_tree
decreases-put_tree l = 3 * l.left + 2
