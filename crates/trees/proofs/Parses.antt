-- Number 5: what a node with the trees behind it is, whether a production's nodes are its expression, and whether all are.
-- Assumes nothing.
use mathlib.Core.Path.{◌≡◌, refl, sym, ap, subst, ◌∙◌}
use mathlib.Core.Bool.{true, false}
use Rattle.std.specs.Prelude.{Option, Some, None}
use mathlib.Core.Logic.{◌⊎◌, inl, inr}
use mathlib.Core.List.{List}
use Prim.Native.Nat.{ℕ, zero, suc, ◌+◌, ◌-◌, ◌≤◌, ◌<◌}
use native.Mathlib.Omega.{arith}
use native.Mathlib.Numerals.{add-one}
use native.Mathlib.Nat.{le-max_left, le-max_right, max-le}
use lib.Dec.{eqb, ltb}
use borrow.Author.Tests.{eqb-true, eqb-false, ltb-true, ltb-false}
use Rattle.expressions.specs.Expr.{nonterminal, anychar, Exp, atom, cat, alt, star, empty, nodes, depth, Content, nothing, tree}
use Rattle.tells.specs.Tells.{Tells, holds, fails}
use Rattle.tells.proofs.Laws.{by_answer}
use Rattle.layout.specs.Layout.{production_count}
use Rattle.layout.specs.Records.{kind_of, argument_of, first_node_of, node_count_of}
use Rattle.trees.specs.Trees.{TreeAt, ContentAt, Trees}
use Rattle.trees.specs.Parsed.{NodeFits, ParsedAt, a_tree, no_tree, HasContent}
use Rattle.trees.proofs.Unique.{nodes_pos, one_tree}

depth_pos : (e : Exp) → 1 ≤ depth e
depth_pos (atom k) = omega arith
depth_pos (cat l r) = omega arith
depth_pos (alt l r) = omega arith
depth_pos (star e) = omega arith
depth_pos empty = omega arith

fits_1 : (k a : ℕ) → k ≡ 1 → NodeFits k a → a ≤ 63
fits_1 k a e (inl h) = h.1
fits_1 k a e (inr h) = absurd (omega (arith, h.0))

fits_other : (k a : ℕ) → (k ≡ 1 → ⊥) → NodeFits k a → (2 ≤ k) × (k ≤ 6) × (a ≡ 0)
fits_other k a f (inl h) = absurd (f h.0)
fits_other k a f (inr h) = h

module _ (k a : ℕ) where
  pub names_told : k ≡ 1 → Tells (NodeFits k a) (ltb a 64)
  names_told e = by_answer (ltb a 64) (λ t. inl (e, omega (arith, ltb-true a 64 t))) (λ t h. omega (arith, ltb-false a 64 t, fits_1 k a e h))

  module _ (other : k ≡ 1 → ⊥) where
    pub low_told : k < 2 → Tells (NodeFits k a) false
    low_told b = fails (λ h. omega (arith, (fits_other k a other h).0))

    pub high_told : 6 < k → Tells (NodeFits k a) false
    high_told b = fails (λ h. omega (arith, (fits_other k a other h).1))

    pub zero_told : 2 ≤ k → k ≤ 6 → Tells (NodeFits k a) (eqb a 0)
    zero_told b d = by_answer (eqb a 0) (λ t. inr (b, d, eqb-true a 0 t)) (λ t h. eqb-false a 0 t (fits_other k a other h).2)

-- the first node of a tree fits
pub tree_fits : (s : List ℕ) (i : ℕ) (e : Exp) → TreeAt s i e → NodeFits (kind_of s i) (argument_of s i)
tree_fits s i (atom (nonterminal n)) h = inl (h.0, omega (arith, h.1, h.2))
tree_fits s i (atom anychar) h = inr (omega (arith, h.0), omega (arith, h.0), h.1)
tree_fits s i (cat l r) h = inr (omega (arith, h.0), omega (arith, h.0), h.1)
tree_fits s i (alt l r) h = inr (omega (arith, h.0), omega (arith, h.0), h.1)
tree_fits s i (star e) h = inr (omega (arith, h.0), omega (arith, h.0), h.1)
tree_fits s i empty h = inr (omega (arith, h.0), omega (arith, h.0), h.1)

pub ends : {s : List ℕ} {i left deep j : ℕ} → ParsedAt s i left deep (Some j) → (i < j) × (j ≤ i + left)
ends (a_tree e h f d q) = omega (arith, nodes_pos e, q)

inner_fits : (k a : ℕ) → NodeFits k a → 3 ≤ k → (k ≤ 6) × (a ≡ 0)
inner_fits k a (inl h) b = absurd (omega (arith, h.0))
inner_fits k a (inr h) b = (h.1, h.2)

module _ (s : List ℕ) (i left deep : ℕ) where
  pub no_nodes : left ≡ 0 → ParsedAt s i left deep None
  no_nodes z = no_tree (λ e h f d. omega (arith, nodes_pos e))

  pub no_depth : deep ≡ 0 → ParsedAt s i left deep None
  no_depth z = no_tree (λ e h f d. omega (arith, depth_pos e))

  module _ (k a : ℕ) (kind : k ≡ kind_of s i) (argument : a ≡ argument_of s i) where
    pub no_fit : (NodeFits k a → ⊥) → ParsedAt s i left deep None
    no_fit f = no_tree (λ e h n d. f (subst (λ (z : ℕ). NodeFits z a) (sym kind) (subst (NodeFits (kind_of s i)) (sym argument) (tree_fits s i e h))))

    module _ (fits : NodeFits k a) (some : left ≡ 0 → ⊥) (deeper : deep ≡ 0 → ⊥) where
      leaf_of : NodeFits k a → k < 3 → ParsedAt s i left deep (Some (i + 1))
      leaf_of (inl h) b = a_tree (atom (nonterminal a)) (sym kind ∙ h.0, sym argument, h.1) (omega arith) (omega arith) refl
      leaf_of (inr h) b = a_tree (atom anychar) (omega (arith, kind, h.0), sym argument ∙ h.2) (omega arith) (omega arith) refl

      pub leaf_tree : k < 3 → ParsedAt s i left deep (Some (i + 1))
      leaf_tree b = leaf_of fits b

      pub empty_tree : 5 < k → ParsedAt s i left deep (Some (i + 1))
      empty_tree b =
          let f = inner_fits k a fits (omega (arith, b)) in
          a_tree empty (omega (arith, kind, f.0, b), sym argument ∙ f.1) (omega arith) (omega arith) refl

      module _ (high : k ≤ 5) (low : 3 ≤ k) where
        none_of : ((e : Exp) → TreeAt s (i + 1) e → nodes e ≤ left - 1 → depth e ≤ deep - 1 → ⊥) → (e : Exp) → TreeAt s i e → nodes e ≤ left → depth e ≤ deep → ⊥
        none_of f (atom (nonterminal n)) h b d = omega (arith, kind, h.0)
        none_of f (atom anychar) h b d = omega (arith, kind, h.0)
        none_of f (cat l r) h b d = f l (rw add-one h.2) (omega arith) (omega (arith, le-max_left (depth l) (depth r)))
        none_of f (alt l r) h b d = f l (rw add-one h.2) (omega arith) (omega (arith, le-max_left (depth l) (depth r)))
        none_of f (star e) h b d = f e (rw add-one h.2) (omega arith) (omega arith)
        none_of f empty h b d = omega (arith, kind, h.0)

        pub inner_none : ParsedAt s (i + 1) (left - 1) (deep - 1) None → ParsedAt s i left deep None
        inner_none (no_tree f) = no_tree (none_of f)

        pub star_tree : (j : ℕ) → k ≡ 5 → ParsedAt s (i + 1) (left - 1) (deep - 1) (Some j) → ParsedAt s i left deep (Some j)
        star_tree j five (a_tree e h f d q) =
            a_tree (star e) (sym kind ∙ five, sym argument ∙ (inner_fits k a fits low).1, rw add-one at h) (omega arith) (omega arith) {j = j} (omega arith)

        module _ (not_star : k ≡ 5 → ⊥) (j : ℕ) (x : Exp) (hx : TreeAt s (i + 1) x) (fx : nodes x ≤ left - 1) (dx : depth x ≤ deep - 1) (q : j ≡ i + 1 + nodes x) where
          two_none : ((e : Exp) → TreeAt s j e → nodes e ≤ i + left - j → depth e ≤ deep - 1 → ⊥) → (l r : Exp) → TreeAt s (suc i) l → TreeAt s (suc i + nodes l) r →
              suc (nodes l + nodes r) ≤ left → depth r ≤ deep - 1 → ⊥
          two_none f l r h h' b d =
              let same : nodes x ≡ nodes l = ap nodes (one_tree s (i + 1) x l hx (rw add-one h)) in
              f r (subst (λ (z : ℕ). TreeAt s z r) (omega arith) h') (omega arith) d

          second_none : ((e : Exp) → TreeAt s j e → nodes e ≤ i + left - j → depth e ≤ deep - 1 → ⊥) → (e : Exp) → TreeAt s i e → nodes e ≤ left → depth e ≤ deep → ⊥
          second_none f (atom (nonterminal n)) h b d = omega (arith, kind, h.0)
          second_none f (atom anychar) h b d = omega (arith, kind, h.0)
          second_none f (cat l r) h b d = two_none f l r h.2 h.3 b (omega (arith, le-max_right (depth l) (depth r)))
          second_none f (alt l r) h b d = two_none f l r h.2 h.3 b (omega (arith, le-max_right (depth l) (depth r)))
          second_none f (star e) h b d = not_star (kind ∙ h.0)
          second_none f empty h b d = omega (arith, kind, h.0)

          two_of : (k ≡ 3) ⊎ (k ≡ 4) → (m : ℕ) (y : Exp) → TreeAt s j y → nodes y ≤ i + left - j → depth y ≤ deep - 1 → m ≡ j + nodes y → ParsedAt s i left deep (Some m)
          two_of (inl three) m y h f d e =
              a_tree (cat x y) (sym kind ∙ three, sym argument ∙ (inner_fits k a fits low).1, rw add-one at hx, subst (λ (z : ℕ). TreeAt s z y) (omega arith) h) (omega arith)
              (omega (arith, max-le dx d)) {j = m} (omega arith)
          two_of (inr four) m y h f d e =
              a_tree (alt x y) (sym kind ∙ four, sym argument ∙ (inner_fits k a fits low).1, rw add-one at hx, subst (λ (z : ℕ). TreeAt s z y) (omega arith) h) (omega arith)
              (omega (arith, max-le dx d)) {j = m} (omega arith)

        three_or_four : (k ≡ 5 → ⊥) → (n : ℕ) → n ≡ k → (n ≡ 3) ⊎ (n ≡ 4)
        three_or_four ns (suc (suc (suc zero))) e = inl refl
        three_or_four ns (suc (suc (suc (suc zero)))) e = inr refl
        three_or_four ns zero e = absurd (omega arith)
        three_or_four ns (suc zero) e = absurd (omega arith)
        three_or_four ns (suc (suc zero)) e = absurd (omega arith)
        three_or_four ns (suc (suc (suc (suc (suc n))))) e = absurd (ns (omega (arith, high)))

        pub two_tree : (k ≡ 5 → ⊥) → (j : ℕ) → ParsedAt s (i + 1) (left - 1) (deep - 1) (Some j) → (r : Option ℕ) → ParsedAt s j (i + left - j) (deep - 1) r → ParsedAt s i left deep r
        two_tree ns j (a_tree x hx fx dx q) (Some m) (a_tree y hy fy dy e) = two_of ns j x hx fx dx q (three_or_four ns k refl) m y hy fy dy e
        two_tree ns j (a_tree x hx fx dx q) None (no_tree f) = no_tree (second_none ns j x hx fx dx q f)

-- any two answers of `parse` are equal
pub one_parsed : (s : List ℕ) (i left deep : ℕ) (a b : Option ℕ) → ParsedAt s i left deep a → ParsedAt s i left deep b → a ≡ b
one_parsed s i left deep (Some j) (Some k) (a_tree e h f d q) (a_tree g m n c r) = ap Some (q ∙ ap (λ (x : Exp). i + nodes x) (one_tree s i e g h m) ∙ sym r)
one_parsed s i left deep (Some j) None (a_tree e h f d q) (no_tree g) = absurd (g e h f d)
one_parsed s i left deep None (Some k) (no_tree g) (a_tree e h f d q) = absurd (g e h f d)
one_parsed s i left deep None None (no_tree f) (no_tree g) = refl

module _ (s : List ℕ) (q n : ℕ) (count : n ≡ node_count_of s q) where
  pub content_none : n ≡ 0 → Tells (HasContent s q) true
  content_none z = holds (nothing, sym count ∙ z)

  module _ (some : n ≡ 0 → ⊥) (i : ℕ) (first : i ≡ first_node_of s q) where
    bad_of : ((e : Exp) → TreeAt s i e → nodes e ≤ n → depth e ≤ 12 → ⊥) → (e : Content) → ContentAt s q e → ⊥
    bad_of f nothing h = some (count ∙ h)
    bad_of f (tree e) h = f e (subst (λ (z : ℕ). TreeAt s z e) (sym first) h.0) (omega (arith, h.1)) h.2

    pub content_bad : ParsedAt s i n 12 None → Tells (HasContent s q) false
    content_bad (no_tree f) = fails (λ c. bad_of f c.0 c.1)

    other_of : (j : ℕ) (e : Exp) → TreeAt s i e → j ≡ i + nodes e → (j ≡ i + n → ⊥) → (c : Content) → ContentAt s q c → ⊥
    other_of j e h p f nothing g = some (count ∙ g)
    other_of j e h p f (tree d) g =
        let same : nodes e ≡ nodes d = ap nodes (one_tree s i e d h (subst (λ (z : ℕ). TreeAt s z d) (sym first) g.0)) in
        f (omega (arith, g.1))

    pub content_told : (j : ℕ) → ParsedAt s i n 12 (Some j) → Tells (HasContent s q) (eqb j (i + n))
    content_told j (a_tree e h f d p) = by_answer (eqb j (i + n))
        (λ t. let w = eqb-true j (i + n) t in (tree e, (subst (λ (z : ℕ). TreeAt s z e) first h, omega arith, d)))
        (λ t c. other_of j e h p (eqb-false j (i + n) t) c.0 c.1)

-- all productions, by the loop over them
pub trees_all : (s : List ℕ) (q : ℕ) → production_count s ≤ q → ((k : ℕ) → k < q → HasContent s k) → Tells (Trees s) true
trees_all s q b f = holds (record { each = λ k h. f k (omega arith) })

pub trees_not : (s : List ℕ) (q : ℕ) → q < production_count s → (HasContent s q → ⊥) → Tells (Trees s) false
trees_not s q b f = fails (λ t. f (t.each q b))
