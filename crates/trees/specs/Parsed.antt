-- What the tests of number 5 answer. Assumes nothing.
use Rattle.std.specs.Prelude.{Option, Some, None, ◌≡◌, ◌⊎◌, List, ℕ, ◌+◌, ◌≤◌, ◌<◌}
use Rattle.expressions.specs.Expr.{Exp, nodes, depth, Content}
use Rattle.expressions.specs.Grammar.{last_nonterminal}
use Rattle.layout.specs.Layout.{production_count, node_count}
use Rattle.layout.specs.Records.{first_node_of, node_count_of}
use Rattle.trees.specs.Trees.{TreeAt, ContentAt}

-- each production's nodes are nodes of the sheet; number 4 gives it
pub record RunsInside (s : List ℕ) : Type 0 where
  pub inside : (q : ℕ) → q < production_count s → first_node_of s q + node_count_of s q ≤ node_count s

-- a kind and the argument that it asks for: a nonterminal's number with kind 1, 0 with 2 to 6
abbrev pub NodeFits : ℕ → ℕ → Type 0
NodeFits kind argument = ((kind ≡ 1) × (argument ≤ last_nonterminal)) ⊎ ((2 ≤ kind) × (kind ≤ 6) × (argument ≡ 0))

-- the node past the tree at i, of at most `left` nodes and at most `deep` deep; or that there is no such tree
pub data ParsedAt (s : List ℕ) (i left deep : ℕ) : Option ℕ → Type 0 where
  a_tree : (e : Exp) → TreeAt s i e → nodes e ≤ left → depth e ≤ deep → {j : ℕ} → j ≡ i + nodes e → ParsedAt s i left deep (Some j)
  no_tree : ((e : Exp) → TreeAt s i e → nodes e ≤ left → depth e ≤ deep → ⊥) → ParsedAt s i left deep None

-- production q has its expression
abbrev pub HasContent : List ℕ → ℕ → Type 0
HasContent s q = (e : Content) × ContentAt s q e
