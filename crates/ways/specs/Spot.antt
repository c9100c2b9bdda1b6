-- Where a tree stands among a sheet's nodes, and where the trees behind its first node stand.
-- Assumes nothing.
use Rattle.std.specs.Prelude.{◌≡◌, List, ℕ, suc, ◌+◌, ◌-◌, ◌≤◌}
use Rattle.expressions.specs.Expr.{Exp, nodes, atoms}
use Rattle.layout.specs.Layout.{node_count}
use Rattle.trees.specs.Trees.{TreeAt}
use Rattle.ways.specs.declared.Spot.{Spot}
use Rattle.ways.specs.declared.Parts.{Parts}

-- e stands at t; its first bracket is i and its first atom is j
pub record At (s : List ℕ) (t : Spot) (e : Exp) (i j : ℕ) : Type 0 where
  pub stands : TreeAt s t.node e
  pub bracket_is : t.bracket ≡ i
  pub atom_is : t.atom ≡ j

-- a tree of as many nodes stands at t, within the sheet's nodes and a production's 32; an atom's number is at most its bracket's
pub record SpotIn (s : List ℕ) (t : Spot) : Type 0 where
  pub any : 1 ≤ t.nodes
  pub inside : t.node + t.nodes ≤ node_count s
  pub few : t.bracket + t.nodes ≤ 33
  pub number : t.atom ≤ t.bracket
  pub expression : Exp
  pub stands : TreeAt s t.node expression
  pub nodes_are : t.nodes ≡ nodes expression

-- r is behind the first node of t, and all that is
pub record PartOf (t r : Spot) : Type 0 where
  pub node_is : r.node ≡ t.node + 1
  pub nodes_are : r.nodes ≡ t.nodes - 1
  pub bracket_is : r.bracket ≡ t.bracket + 1
  pub atom_is : r.atom ≡ t.atom

-- the two trees behind the first node of t
pub record PartsOf (s : List ℕ) (t : Spot) (r : Parts) : Type 0 where
  pub both : r.first.nodes + r.second.nodes + 1 ≡ t.nodes
  pub first_in : SpotIn s r.first
  pub second_in : SpotIn s r.second
  pub first_at : (e : Exp) → TreeAt s (suc t.node) e → (i j : ℕ) → t.bracket ≡ i → t.atom ≡ j → At s r.first e (suc i) j
  pub second_at : (e f : Exp) → TreeAt s (suc t.node) e → TreeAt s (suc t.node + nodes e) f →
      (i j : ℕ) → t.bracket ≡ i → t.atom ≡ j → At s r.second f (suc i + nodes e) (j + atoms e)
