-- How many nodes are written before a node: each answer from what the parts handed back. Assumes nothing.
use mathlib.Core.Path.{◌≡◌, refl, sym, ◌∙◌, ap, ap₂, subst}
use mathlib.Core.Bool.{Bool, true, false, cond}
use mathlib.Core.List.{List}
use Prim.Native.Nat.{ℕ, suc, ◌+◌, ◌-◌, ◌≤◌, ◌<◌}
use native.Mathlib.Omega.{arith}
use lib.Dec.{ltb, eqb}
use borrow.Author.Tests.{eq-eqb, ne_eqb, lt-ltb, le-ltb}
use Rattle.expressions.specs.Expr.{Exp, nodes, atoms}
use Rattle.layout.specs.Records.{kind_of}
use Rattle.trees.specs.Trees.{TreeAt}
use Rattle.trees.proofs.Unique.{one_tree}
use Rattle.ways.specs.declared.Spot.{Spot}
use Rattle.ways.specs.declared.Parts.{Parts}
use Rattle.ways.specs.Spot.{At, SpotIn, PartOf, PartsOf}
use Rattle.ways.proofs.Spots.{by_leaf, by_star, by_empty, by_two, part_at}
use Rattle.signs.specs.Order.{amidst, rank, WrittenBefore}

pub spot_nodes : (s : List ℕ) (t : Spot) → SpotIn s t → (e : Exp) (i j : ℕ) → At s t e i j → t.nodes ≡ nodes e
spot_nodes s t h e i j at = h.nodes_are ∙ ap nodes (one_tree s t.node h.expression e h.stands at.stands)

pub amidst_own : (i a n x y : ℕ) → n ≡ i → amidst i a n x y ≡ a
amidst_own i a n x y e = ap (λ (b : Bool). cond b a (cond (ltb n (suc i + a)) x (suc a + y))) (eq-eqb n i e)

pub amidst_first : (i a n x y : ℕ) → (n ≡ i → ⊥) → n < suc i + a → amidst i a n x y ≡ x
amidst_first i a n x y e h = ap (λ (b : Bool). cond b a (cond (ltb n (suc i + a)) x (suc a + y))) (ne_eqb n i e) ∙ ap (λ (b : Bool). cond b x (suc a + y)) (lt-ltb n (suc i + a) h)

pub amidst_second : (i a n x y : ℕ) → (n ≡ i → ⊥) → suc i + a ≤ n → amidst i a n x y ≡ suc a + y
amidst_second i a n x y e h = ap (λ (b : Bool). cond b a (cond (ltb n (suc i + a)) x (suc a + y))) (ne_eqb n i e) ∙ ap (λ (b : Bool). cond b x (suc a + y)) (le-ltb n (suc i + a) h)

module _ (s : List ℕ) (t : Spot) (k : ℕ) (kind : k ≡ kind_of s t.node) (spot : SpotIn s t) (n : ℕ) where
  pub before_leaf : k < 3 → WrittenBefore s t n 0
  before_leaf b = record { few = omega (arith, spot.any); is = λ e i j at. by_leaf s t k kind (λ (u : Exp). 0 ≡ rank u i n) b (λ a _. refl) e at }

  pub before_empty : 5 < k → WrittenBefore s t n 0
  before_empty b = record { few = omega (arith, spot.any); is = λ e i j at. by_empty s t k kind (λ (u : Exp). 0 ≡ rank u i n) b refl e at }

  -- a star
  pub star_own : k ≡ 5 → n ≡ t.bracket → WrittenBefore s t n (t.nodes - 1)
  star_own b own = record {
    few = omega (arith, spot.any);
    is = λ e i j at. by_star s t k kind (λ (u : Exp). t.nodes ≡ nodes u → t.nodes - 1 ≡ rank u i n) b
        (λ o y z. let w : t.nodes - 1 ≡ nodes o = omega (arith, z) in w ∙ sym (ap (λ (c : Bool). cond c (nodes o) (rank o (suc i) n)) (eq-eqb n i (own ∙ at.bracket_is)))) e at
        (spot_nodes s t spot e i j at);
  }

  pub star_part : k ≡ 5 → (n ≡ t.bracket → ⊥) → (only : Spot) → PartOf t only → (r : ℕ) → WrittenBefore s only n r → WrittenBefore s t n r
  star_part b other only p r w = record {
    few = omega (arith, w.few, p.nodes_are, spot.any);
    is = λ e i j at. by_star s t k kind (λ (u : Exp). r ≡ rank u i n) b
        (λ o y. w.is o (suc i) j (part_at s t only p o y i j at.bracket_is at.atom_is)
        ∙ sym (ap (λ (c : Bool). cond c (nodes o) (rank o (suc i) n)) (ne_eqb n i (λ z. other (z ∙ sym at.bracket_is))))) e at;
  }

  -- a concatenation or a union: the same for both
  module _ (low : 3 ≤ k) (high : k ≤ 4) (two : Parts) (p : PartsOf s t two) where
    by_parts : (r : ℕ) → ((l m : Exp) (i j : ℕ) → t.bracket ≡ i → At s two.first l (suc i) j → two.first.nodes ≡ nodes l → two.second.bracket ≡ suc i + nodes l
        → (At s two.second m (suc i + nodes l) (j + atoms l)) → r ≡ amidst i (nodes l) n (rank l (suc i) n) (rank m (suc i + nodes l) n))
        → (e : Exp) (i j : ℕ) → At s t e i j → r ≡ rank e i n
    by_parts r f e i j at =
        by_two s t k kind (λ (u : Exp). r ≡ rank u i n) low high (λ _ l m y z. on l m y z) (λ _ l m y z. on l m y z) e at
      where
        on : (l m : Exp) → TreeAt s (suc t.node) l → TreeAt s (suc t.node + nodes l) m → r ≡ amidst i (nodes l) n (rank l (suc i) n) (rank m (suc i + nodes l) n)
        on l m y z =
            let a = p.first_at l y i j at.bracket_is at.atom_is in
            let c = p.second_at l m y z i j at.bracket_is at.atom_is in
            f l m i j at.bracket_is a (spot_nodes s two.first p.first_in l (suc i) j a) c.bracket_is c

    pub two_own : n ≡ t.bracket → WrittenBefore s t n two.first.nodes
    two_own own = record {
      few = omega (arith, p.both);
      is = by_parts two.first.nodes (λ l m i j b a c d g. c ∙ sym (amidst_own i (nodes l) n (rank l (suc i) n) (rank m (suc i + nodes l) n) (own ∙ b)));
    }

    pub two_first : (n ≡ t.bracket → ⊥) → n < two.second.bracket → (r : ℕ) → WrittenBefore s two.first n r → WrittenBefore s t n r
    two_first other h r w = record {
      few = omega (arith, p.both, w.few);
      is = by_parts r (λ l m i j b a c d g.
          w.is l (suc i) j a ∙ sym (amidst_first i (nodes l) n (rank l (suc i) n) (rank m (suc i + nodes l) n) (λ z. other (z ∙ sym b)) (omega (arith, h, d))));
    }

    pub two_second : (n ≡ t.bracket → ⊥) → two.second.bracket ≤ n → (r : ℕ) → WrittenBefore s two.second n r → WrittenBefore s t n (two.first.nodes + 1 + r)
    two_second other h r w = record {
      few = omega (arith, p.both, w.few);
      is = by_parts (two.first.nodes + 1 + r) (λ l m i j b a c d g.
          let x : r ≡ rank m (suc i + nodes l) n = w.is m (suc i + nodes l) (j + atoms l) g in
          let y : two.first.nodes + 1 + r ≡ suc (nodes l) + r = omega (arith, c) in
          y ∙ ap (λ (z : ℕ). suc (nodes l) + z) x ∙ sym (amidst_second i (nodes l) n (rank l (suc i) n) (rank m (suc i + nodes l) n) (λ z. other (z ∙ sym b)) (omega (arith, h, d))));
    }
