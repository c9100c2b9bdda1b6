-- What the walk answers at a node from its answers behind it: the node's kind says which expression stands there, and its parts
-- stand where the walk went on.
-- Assumes nothing.
use mathlib.Core.Path.{◌≡◌, refl, sym, ◌∙◌, subst}
use mathlib.Core.List.{List}
use Prim.Native.Nat.{ℕ, suc, ◌+◌, ◌-◌, ◌≤◌, ◌<◌}
use native.Mathlib.Omega.{arith}
use native.Mathlib.Numerals.{add-one}
use lib.Dec.{eqb}
use Rattle.expressions.specs.Expr.{Exp, atom, cat, alt, star, empty, nonterminal, anychar, nodes, atoms}
use Rattle.layout.specs.Layout.{node_count}
use Rattle.layout.specs.Records.{kind_of, argument_of}
use Rattle.trees.specs.declared.Tally.{Tally}
use Rattle.trees.specs.Trees.{TreeAt}
use Rattle.trees.specs.Tally.{LeafOf, EmptyOf, StarOf, JoinOf, TreeIn, CountsOf, PastOf, Tallied}
use Rattle.trees.proofs.Unique.{nodes_pos, by_kind_3, by_kind_4, by_kind_5, by_kind_6}

pub few_atoms : (e : Exp) → atoms e ≤ nodes e
few_atoms (atom k) = omega arith
few_atoms (cat l r) = omega (arith, few_atoms l, few_atoms r)
few_atoms (alt l r) = omega (arith, few_atoms l, few_atoms r)
few_atoms (star e) = omega (arith, few_atoms e)
few_atoms empty = omega arith

module _ (s : List ℕ) (at : ℕ) where
  -- what the calls of the walk ask
  pub room : (left j : ℕ) → TreeIn s at left j → (1 ≤ left) × (at < node_count s) × (j ≤ at + 1)
  room left j t = omega (arith, nodes_pos t.expression)

  -- a node's kind
  module _ (k : ℕ) (kind : k ≡ kind_of s at) (parts : k ≤ 5) where
    -- the tree behind a node that is no atom
    module _ (inner : 3 ≤ k) (left j : ℕ) (number : j ≤ at + 1) where
      first_of : (e : Exp) → TreeAt s at e → nodes e ≤ left → at + nodes e ≤ node_count s → TreeIn s (at + 1) (left - 1) j
      first_of (atom (nonterminal n)) h f i = absurd (omega (arith, h.0))
      first_of (atom anychar) h f i = absurd (omega (arith, h.0))
      first_of (cat l r) h f i = record { expression = l; stands = rw add-one h.2; few = omega arith; inside = omega arith; number = omega arith }
      first_of (alt l r) h f i = record { expression = l; stands = rw add-one h.2; few = omega arith; inside = omega arith; number = omega arith }
      first_of (star e) h f i = record { expression = e; stands = rw add-one h.2; few = omega arith; inside = omega arith; number = omega arith }
      first_of empty h f i = absurd (omega (arith, h.0))

      -- the second one of two, past the first
      module _ (next atom_past : ℕ) (passed : (e : Exp) → TreeAt s (at + 1) e → PastOf (at + 1) j e next atom_past) (not_5 : k ≡ 5 → ⊥) where
        two_of : (e f : Exp) → TreeAt s (suc at) e → TreeAt s (suc at + nodes e) f → suc (nodes e + nodes f) ≤ left → at + suc (nodes e + nodes f) ≤ node_count s →
            TreeIn s next (left - 1) atom_past
        two_of e f h h' b i =
            let m = passed e (rw add-one h) in
            record {
              expression = f;
              stands = subst (λ (z : ℕ). TreeAt s z f) (omega (arith, m)) h';
              few = omega arith;
              inside = omega (arith, m);
              number = omega (arith, m, few_atoms e);
            }

        second_of : (e : Exp) → TreeAt s at e → nodes e ≤ left → at + nodes e ≤ node_count s → TreeIn s next (left - 1) atom_past
        second_of (atom (nonterminal n)) h f i = absurd (omega (arith, h.0))
        second_of (atom anychar) h f i = absurd (omega (arith, h.0))
        second_of (cat l' r') h f i = two_of l' r' h.2 h.3 f i
        second_of (alt l' r') h f i = two_of l' r' h.2 h.3 f i
        second_of (star e) h f i = absurd (not_5 (kind ∙ h.0))
        second_of empty h f i = absurd (omega (arith, h.0))

    pub inner : 3 ≤ k → (left j : ℕ) → TreeIn s at left j → TreeIn s (at + 1) (left - 1) j
    inner a left j t = first_of a left j t.number t.expression t.stands t.few t.inside

    pub inner_2 : 3 ≤ k → (left j : ℕ) → TreeIn s at left j → (next atom_past : ℕ) → ((e : Exp) → TreeAt s (at + 1) e → PastOf (at + 1) j e next atom_past) →
        (k ≡ 5 → ⊥) → TreeIn s next (left - 1) atom_past
    inner_2 a left j t next atom_past passed c = second_of a left j t.number next atom_past passed c t.expression t.stands t.few t.inside

    pub no_atom : (e : Exp) → TreeAt s at e → (k ≡ 1 → ⊥) → (k ≡ 2 → ⊥) → 3 ≤ k
    no_atom (atom (nonterminal n)) h a b = absurd (a (kind ∙ h.0))
    no_atom (atom anychar) h a b = absurd (b (kind ∙ h.0))
    no_atom (cat l r) h a b = omega (arith, h.0)
    no_atom (alt l r) h a b = omega (arith, h.0)
    no_atom (star e) h a b = omega (arith, h.0)
    no_atom empty h a b = absurd (omega (arith, h.0))

    -- the one kind left
    pub four : (e : Exp) → TreeAt s at e → 3 ≤ k → (k ≡ 3 → ⊥) → (k ≡ 5 → ⊥) → kind_of s at ≡ 4
    four (atom (nonterminal n)) h a b c = absurd (omega (arith, h.0))
    four (atom anychar) h a b c = absurd (omega (arith, h.0))
    four (cat l r) h a b c = absurd (b (kind ∙ h.0))
    four (alt l r) h a b c = h.0
    four (star e) h a b c = absurd (c (kind ∙ h.0))
    four empty h a b c = absurd (omega (arith, h.0))

  module _ (p j : ℕ) (t : Tally) where
    -- an atom stands where the kind is 1 or 2
    pub leaf_tallied : LeafOf (eqb p j) (at + 1) (j + 1) t → (k : ℕ) → k ≡ kind_of s at → k < 3 → Tallied s p at j t
    leaf_tallied q k kind low = record { passes = past; counts = counted }
      where
        past : (e : Exp) → TreeAt s at e → PastOf at j e t.next t.atom
        past (atom a) h = record { next_is = q.next_of; atom_is = q.atom_of }
        past (cat l r) h = absurd (omega (arith, h.0, kind, low))
        past (alt l r) h = absurd (omega (arith, h.0, kind, low))
        past (star e) h = absurd (omega (arith, h.0, kind, low))
        past empty h = absurd (omega (arith, h.0, kind, low))

        counted : (e : Exp) → TreeAt s at e → CountsOf p j e t
        counted (atom a) h = q.counts p j a refl
        counted (cat l r) h = absurd (omega (arith, h.0, kind, low))
        counted (alt l r) h = absurd (omega (arith, h.0, kind, low))
        counted (star e) h = absurd (omega (arith, h.0, kind, low))
        counted empty h = absurd (omega (arith, h.0, kind, low))

    -- the empty node where it is 6
    pub empty_tallied : EmptyOf (at + 1) j t → 5 < kind_of s at → Tallied s p at j t
    empty_tallied q k =
        record {
          passes = λ e h. subst (λ (u : Exp). PastOf at j u t.next t.atom) (sym (by_kind_6 s at k e h).0) (record { next_is = q.next_of; atom_is = omega (arith, q.atom_of) });
          counts = λ e h. subst (λ (u : Exp). CountsOf p j u t) (sym (by_kind_6 s at k e h).0) (q.counts p j);
        }

    module _ (l : Tally) (tl : Tallied s p (at + 1) j l) where
      pub star_tallied : StarOf l t → kind_of s at ≡ 5 → Tallied s p at j t
      star_tallied q k =
          record {
            passes = λ e h.
                let v = by_kind_5 s at k e h in
                let m = tl.passes v.0 (rw add-one v.3) in
                subst (λ (u : Exp). PastOf at j u t.next t.atom) (sym v.1) (record { next_is = omega (arith, m, q.next_of); atom_is = q.atom_of ∙ m.atom_is });
            counts = λ e h.
                let v = by_kind_5 s at k e h in
                subst (λ (u : Exp). CountsOf p j u t) (sym v.1) (q.counts p j v.0 (tl.counts v.0 (rw add-one v.3)));
          }

      -- a concatenation or a union: what its kind says of it is all that tells the two apart
      module _ (r : Tally) (tr : Tallied s p l.next l.atom r) (join : Exp → Exp → Exp) (q : JoinOf join l r t)
          (nodes_join : (e f : Exp) → nodes (join e f) ≡ suc (nodes e + nodes f)) (atoms_join : (e f : Exp) → atoms (join e f) ≡ atoms e + atoms f)
          (by_kind : (e : Exp) → TreeAt s at e → (e' : Exp) × (f : Exp) × (e ≡ join e' f) × (argument_of s at ≡ 0) × TreeAt s (suc at) e' × TreeAt s (suc at + nodes e') f) where
        -- the second part's answers, by the first part's end
        right_part : (e : Exp) → TreeAt s (suc at) e → Tallied s p (suc at + nodes e) (j + atoms e) r
        right_part e h =
            let m = tl.passes e (rw add-one h) in
            subst (λ (z : ℕ). Tallied s p (suc at + nodes e) z r) m.atom_is
            (subst (λ (z : ℕ). Tallied s p z l.atom r) (rw add-one at m.next_is) tr)

        past_join : (e f : Exp) → TreeAt s (suc at) e → TreeAt s (suc at + nodes e) f → PastOf at j (join e f) t.next t.atom
        past_join e f h h' =
            let m = (right_part e h).passes f h' in
            record { next_is = omega (arith, m, q.next_of, nodes_join e f); atom_is = omega (arith, m, q.atom_of, atoms_join e f) }

        join_tallied : Tallied s p at j t
        join_tallied =
            record {
              passes = λ e h. let v = by_kind e h in subst (λ (u : Exp). PastOf at j u t.next t.atom) (sym v.2) (past_join v.0 v.1 v.4 v.5);
              counts = λ e h.
                  let v = by_kind e h in
                  subst (λ (u : Exp). CountsOf p j u t) (sym v.2)
                  (q.counts p j v.0 v.1 (tl.counts v.0 (rw add-one v.4)) ((right_part v.0 v.4).counts v.1 v.5));
            }

      pub cat_tallied : (r : Tally) → Tallied s p l.next l.atom r → JoinOf cat l r t → kind_of s at ≡ 3 → Tallied s p at j t
      cat_tallied r tr q k = join_tallied r tr cat q (λ e f. refl) (λ e f. refl) (by_kind_3 s at k)

      pub alt_tallied : (r : Tally) → Tallied s p l.next l.atom r → JoinOf alt l r t → kind_of s at ≡ 4 → Tallied s p at j t
      alt_tallied r tr q k = join_tallied r tr alt q (λ e f. refl) (λ e f. refl) (by_kind_4 s at k)
