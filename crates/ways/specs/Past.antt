-- Past a tree, node by node: how many trees are left to pass after each node.
-- Assumes nothing.
use Rattle.std.specs.Prelude.{◌≡◌, List, ℕ, ◌+◌, ◌≤◌, ◌<◌}
use Rattle.expressions.specs.Expr.{Exp}
use Rattle.trees.specs.Trees.{TreeAt}
use Rattle.trees.specs.Tally.{PastOf}
use Rattle.ways.specs.declared.Passing.{Passing}

-- after a node of this kind
pub record OneOn (kind : ℕ) (w r : Passing) : Type 0 where
  pub node_is : r.node ≡ w.node + 1
  pub leaf : kind < 3 → (r.atoms ≡ w.atoms + 1) × (r.left + 1 ≡ w.left)
  pub two : 3 ≤ kind → kind ≤ 4 → (r.atoms ≡ w.atoms) × (r.left ≡ w.left + 1)
  pub only : kind ≡ 5 → (r.atoms ≡ w.atoms) × (r.left ≡ w.left)
  pub none : 5 < kind → (r.atoms ≡ w.atoms) × (r.left + 1 ≡ w.left)

-- past the tree that stands at a node: the node after it, and its atoms
pub record PassedBy (s : List ℕ) (at : ℕ) (r : Passing) : Type 0 where
  pub passes : (e : Exp) → TreeAt s at e → PastOf at 0 e r.node r.atoms
