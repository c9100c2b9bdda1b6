-- The nodes decide the tree, a production's record its expression, and the sheet its grammar: by induction on the first of two.
-- Assumes nothing.
use mathlib.Core.Path.{◌≡◌, refl, sym, ap, subst, ◌∙◌}
use mathlib.Core.List.{List, [], ◌∷◌}
use Prim.Native.Nat.{ℕ, suc, ◌+◌, ◌≤◌, ◌<◌}
use native.Mathlib.Omega.{arith}
use Rattle.expressions.specs.Expr.{nonterminal, anychar, Exp, atom, cat, alt, star, empty, nodes, Content, nothing, tree}
use Rattle.expressions.specs.Grammar.{Production}
use Rattle.layout.specs.Layout.{production_count}
use Rattle.layout.specs.Records.{kind_of, argument_of, first_node_of}
use Rattle.trees.specs.Trees.{TreeAt, ContentAt}
use Rattle.trees.specs.GrammarAt.{ProductionIs, GrammarFrom, GrammarIs}

pub nodes_pos : (e : Exp) → 1 ≤ nodes e
nodes_pos (atom k) = omega arith
nodes_pos (cat l r) = omega arith
nodes_pos (alt l r) = omega arith
nodes_pos (star e) = omega arith
nodes_pos empty = omega arith

-- the first node's kind tells which expression it is
module _ (s : List ℕ) (i : ℕ) where
  pub by_kind_1 : kind_of s i ≡ 1 → (e : Exp) → TreeAt s i e → (e ≡ atom (nonterminal (argument_of s i))) × (argument_of s i ≤ 63)
  by_kind_1 k (atom (nonterminal n)) h = (ap (λ (m : ℕ). atom (nonterminal m)) (sym h.1), omega (arith, h.1, h.2))
  by_kind_1 k (atom anychar) h = absurd (omega (arith, h.0))
  by_kind_1 k (cat l r) h = absurd (omega (arith, h.0))
  by_kind_1 k (alt l r) h = absurd (omega (arith, h.0))
  by_kind_1 k (star e) h = absurd (omega (arith, h.0))
  by_kind_1 k empty h = absurd (omega (arith, h.0))

  pub by_kind_2 : kind_of s i ≡ 2 → (e : Exp) → TreeAt s i e → (e ≡ atom anychar) × (argument_of s i ≡ 0)
  by_kind_2 k (atom (nonterminal n)) h = absurd (omega (arith, h.0))
  by_kind_2 k (atom anychar) h = (refl, h.1)
  by_kind_2 k (cat l r) h = absurd (omega (arith, h.0))
  by_kind_2 k (alt l r) h = absurd (omega (arith, h.0))
  by_kind_2 k (star e) h = absurd (omega (arith, h.0))
  by_kind_2 k empty h = absurd (omega (arith, h.0))

  pub by_kind_3 : kind_of s i ≡ 3 → (e : Exp) → TreeAt s i e →
      (l : Exp) × (r : Exp) × (e ≡ cat l r) × (argument_of s i ≡ 0) × TreeAt s (suc i) l × TreeAt s (suc i + nodes l) r
  by_kind_3 k (atom (nonterminal n)) h = absurd (omega (arith, h.0))
  by_kind_3 k (atom anychar) h = absurd (omega (arith, h.0))
  by_kind_3 k (cat l r) h = (l, r, refl, h.1, h.2, h.3)
  by_kind_3 k (alt l r) h = absurd (omega (arith, h.0))
  by_kind_3 k (star e) h = absurd (omega (arith, h.0))
  by_kind_3 k empty h = absurd (omega (arith, h.0))

  pub by_kind_4 : kind_of s i ≡ 4 → (e : Exp) → TreeAt s i e →
      (l : Exp) × (r : Exp) × (e ≡ alt l r) × (argument_of s i ≡ 0) × TreeAt s (suc i) l × TreeAt s (suc i + nodes l) r
  by_kind_4 k (atom (nonterminal n)) h = absurd (omega (arith, h.0))
  by_kind_4 k (atom anychar) h = absurd (omega (arith, h.0))
  by_kind_4 k (cat l r) h = absurd (omega (arith, h.0))
  by_kind_4 k (alt l r) h = (l, r, refl, h.1, h.2, h.3)
  by_kind_4 k (star e) h = absurd (omega (arith, h.0))
  by_kind_4 k empty h = absurd (omega (arith, h.0))

  pub by_kind_5 : kind_of s i ≡ 5 → (e : Exp) → TreeAt s i e → (f : Exp) × (e ≡ star f) × (argument_of s i ≡ 0) × TreeAt s (suc i) f
  by_kind_5 k (atom (nonterminal n)) h = absurd (omega (arith, h.0))
  by_kind_5 k (atom anychar) h = absurd (omega (arith, h.0))
  by_kind_5 k (cat l r) h = absurd (omega (arith, h.0))
  by_kind_5 k (alt l r) h = absurd (omega (arith, h.0))
  by_kind_5 k (star e) h = (e, refl, h.1, h.2)
  by_kind_5 k empty h = absurd (omega (arith, h.0))

  pub by_kind_6 : 5 < kind_of s i → (e : Exp) → TreeAt s i e → (e ≡ empty) × (argument_of s i ≡ 0)
  by_kind_6 k (atom (nonterminal n)) h = absurd (omega (arith, h.0))
  by_kind_6 k (atom anychar) h = absurd (omega (arith, h.0))
  by_kind_6 k (cat l r) h = absurd (omega (arith, h.0))
  by_kind_6 k (alt l r) h = absurd (omega (arith, h.0))
  by_kind_6 k (star e) h = absurd (omega (arith, h.0))
  by_kind_6 k empty h = (refl, h.1)

production_by : {c d : Production} → c.nonterm ≡ d.nonterm → c.tagno ≡ d.tagno → c.content ≡ d.content → c ≡ d
production_by {c} {d} x y z =
    let w : record { nonterm = c.nonterm; tagno = c.tagno; content = c.content } ≡ d = rw (x, y, z) refl in
    w

-- at most one tree starts at a node
module _ (s : List ℕ) where
  pub one_tree : (i : ℕ) (e f : Exp) → TreeAt s i e → TreeAt s i f → e ≡ f
  one_tree i (atom (nonterminal n)) f h k = sym ((by_kind_1 s i h.0 f k).0 ∙ ap (λ (m : ℕ). atom (nonterminal m)) h.1)
  one_tree i (atom anychar) f h k = sym (by_kind_2 s i h.0 f k).0
  one_tree i (cat l r) f h k =
      let v = by_kind_3 s i h.0 f k in
      let x : l ≡ v.0 = one_tree (suc i) l v.0 h.2 v.4 in
      let y : r ≡ v.1 = one_tree (suc i + nodes l) r v.1 h.3 (subst (λ (t : Exp). TreeAt s (suc i + nodes t) v.1) (sym x) v.5) in
      let z : f ≡ cat v.0 v.1 = v.2 in
      cc
  one_tree i (alt l r) f h k =
      let v = by_kind_4 s i h.0 f k in
      let x : l ≡ v.0 = one_tree (suc i) l v.0 h.2 v.4 in
      let y : r ≡ v.1 = one_tree (suc i + nodes l) r v.1 h.3 (subst (λ (t : Exp). TreeAt s (suc i + nodes t) v.1) (sym x) v.5) in
      let z : f ≡ alt v.0 v.1 = v.2 in
      cc
  one_tree i (star e) f h k =
      let v = by_kind_5 s i h.0 f k in
      let x : e ≡ v.0 = one_tree (suc i) e v.0 h.2 v.3 in
      let z : f ≡ star v.0 = v.1 in
      cc
  one_tree i empty f h k = sym (by_kind_6 s i (omega (arith, h.0)) f k).0

  pub one_content : (q : ℕ) (e f : Content) → ContentAt s q e → ContentAt s q f → e ≡ f
  one_content q nothing nothing h k = refl
  one_content q nothing (tree f) h k = absurd (omega (arith, nodes_pos f, k.1))
  one_content q (tree e) nothing h k = absurd (omega (arith, nodes_pos e, h.1))
  one_content q (tree e) (tree f) h k = ap tree (one_tree (first_node_of s q) e f h.0 k.0)

  pub one_production : (q : ℕ) (c d : Production) → ProductionIs s q c → ProductionIs s q d → c ≡ d
  one_production q c d h k =
      let x : c.nonterm ≡ d.nonterm = h.nonterminal_is ∙ sym k.nonterminal_is in
      let y : c.tagno ≡ d.tagno = h.tag_is ∙ sym k.tag_is in
      let z : c.content ≡ d.content = one_content q c.content d.content h.content_is k.content_is in
      production_by x y z

  -- productions from q on start at most at their count
  pub from_most : (q : ℕ) (g : List Production) → GrammarFrom s q g → q ≤ production_count s
  from_most q [] h = omega arith
  from_most q (d ∷ g) h = omega (arith, from_most (suc q) g h.1)

  one_from : (q : ℕ) (g h : List Production) → GrammarFrom s q g → GrammarFrom s q h → g ≡ h
  one_from q [] [] m n = refl
  one_from q [] (d ∷ h) m n = absurd (omega (arith, from_most (suc q) h n.1))
  one_from q (c ∷ g) [] m n = absurd (omega (arith, from_most (suc q) g m.1))
  one_from q (c ∷ g) (d ∷ h) m n =
      let x = one_production q c d m.0 n.0 in
      let y = one_from (suc q) g h m.1 n.1 in
      cc

  pub one_grammar : (g h : List Production) → GrammarIs s g → GrammarIs s h → g ≡ h
  one_grammar g h m n = one_from 0 g h m n
