-- The expressions that the nodes of a sheet are. Number 5 of document 01. Assumes nothing.
use Rattle.std.specs.Prelude.{◌≡◌, List, ℕ, suc, ◌+◌, ◌≤◌, ◌<◌}
use Rattle.limits.specs.Limits.{deepest_tree}
use Rattle.expressions.specs.Expr.{nonterminal, anychar, Exp, atom, cat, alt, star, empty, nodes, depth, Content, nothing, tree}
use Rattle.expressions.specs.Grammar.{last_nonterminal}
use Rattle.layout.specs.Layout.{production_count}
use Rattle.layout.specs.Records.{kind_of, argument_of, first_node_of, node_count_of}

-- the nodes from i on are the tree e, in preorder. Kinds are 1 to 6
abbrev pub TreeAt : List ℕ → ℕ → Exp → Type 0
TreeAt s i (atom (nonterminal n)) = (kind_of s i ≡ 1) × (argument_of s i ≡ n) × (n ≤ last_nonterminal)
TreeAt s i (atom anychar) = (kind_of s i ≡ 2) × (argument_of s i ≡ 0)
TreeAt s i (cat l r) = (kind_of s i ≡ 3) × (argument_of s i ≡ 0) × TreeAt s (suc i) l × TreeAt s (suc i + nodes l) r
TreeAt s i (alt l r) = (kind_of s i ≡ 4) × (argument_of s i ≡ 0) × TreeAt s (suc i) l × TreeAt s (suc i + nodes l) r
TreeAt s i (star e) = (kind_of s i ≡ 5) × (argument_of s i ≡ 0) × TreeAt s (suc i) e
TreeAt s i empty = (kind_of s i ≡ 6) × (argument_of s i ≡ 0)

-- production q's expression: none where it has no nodes, else its nodes are one whole tree, at most 12 deep
abbrev pub ContentAt : List ℕ → ℕ → Content → Type 0
ContentAt s q nothing = node_count_of s q ≡ 0
ContentAt s q (tree e) = TreeAt s (first_node_of s q) e × (nodes e ≡ node_count_of s q) × (depth e ≤ deepest_tree)

-- number 5: each production has its expression
pub record Trees (s : List ℕ) : Type 0 where
  pub each : (q : ℕ) → q < production_count s → (e : Content) × ContentAt s q e
