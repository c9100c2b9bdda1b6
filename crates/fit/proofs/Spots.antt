-- What the walk finds at a node from what it found behind it: an atom is found by its number; a node around it adds one to the open ones; of
-- two parts the one that has the atom's number is taken.
-- Assumes nothing.
use mathlib.Core.Path.{◌≡◌, refl, sym, ap, subst, ◌∙◌}
use mathlib.Core.Bool.{Bool, true, false, cond}
use mathlib.Core.List.{List, [], ◌∷◌, ◌++◌}
use mathlib.Core.Option.{Option, none, some}
use Prim.Native.Nat.{ℕ, suc, ◌+◌, ◌-◌, ◌≤◌, ◌<◌}
use native.Mathlib.Omega.{arith}
use native.Mathlib.Numerals.{add-one}
use lib.Dec.{ltb, eqb}
use lib.ListN.{length-append}
use Rattle.expressions.specs.Expr.{Atom, nonterminal, anychar, Exp, atom, cat, alt, star, empty, nodes, atoms}
use Rattle.layout.specs.Layout.{node_count}
use Rattle.layout.specs.Records.{kind_of, argument_of}
use Rattle.trees.specs.Trees.{TreeAt}
use Rattle.trees.specs.Tally.{TreeIn}
use Rattle.trees.proofs.Unique.{by_kind_1, by_kind_2, by_kind_5, by_kind_6}
use Rattle.trees.proofs.Tallies.{few_atoms}
use Rattle.runs.specs.Options.{when_true}
use Rattle.runs.specs.Nodes.{one_of_lem, inside_node, nodes_at}
use Rattle.fit.specs.declared.Spot.{Spot}
use Rattle.fit.specs.declared.Walked.{Walked}
use Rattle.fit.specs.Fit.{atom_in, child_of}
use Rattle.fit.specs.Tests.{child_number, SpotOf, here, nowhere, AtomWalked, AroundOf, WalkedAs}

leaf_spot : (b : Bool) (k : Atom) (i : ℕ) (r : Spot) → r.there ≡ b → r.«open» ≡ 1 → r.child ≡ child_number (child_of (some k)) →
    SpotOf r (when_true b (i ∷ [])) (child_of (when_true b k))
leaf_spot true k i r t o c = here t o c
leaf_spot false k i r t o c = nowhere t

around_spot : (i : ℕ) (inner r : Spot) (o : Option (List ℕ)) (c : Option ℕ) → r.there ≡ inner.there → r.child ≡ inner.child → r.«open» ≡ suc inner.«open» →
    SpotOf inner o c → SpotOf r (inside_node i o) c
around_spot i inner r (some ns) c t d n (here t' o' c') = here {ns = ns ++ i ∷ []} (t ∙ t') (omega (arith, n, o', length-append ns (i ∷ []))) (d ∙ c')
around_spot i inner r none c t d n (nowhere t') = nowhere (t ∙ t')

module _ (s : List ℕ) (p at j : ℕ) where
  abbrev Finds : Spot → Exp → Type 0
  Finds r e = (i : ℕ) → SpotOf r (nodes_at e i j p) (child_of (atom_in e j p))

  leaf_walked : (k : Atom) (r : Walked) (n : ℕ) → AtomWalked (eqb p j) n (at + 1) (j + 1) r → n ≡ child_number (child_of (some k)) → ((e : Exp) → TreeAt s at e → e ≡ atom k) →
      at < node_count s → WalkedAs s p at j r
  leaf_walked k r n q c only i =
      record {
        on = omega (arith, q.next_of);
        few = omega (arith, q.one_open);
        next_is = λ e h. subst (λ (u : Exp). r.next ≡ at + nodes u) (sym (only e h)) q.next_of;
        atom_is = λ e h. subst (λ (u : Exp). r.atom ≡ j + atoms u) (sym (only e h)) q.atom_of;
        finds = λ e h. subst (Finds r.spot) (sym (only e h)) (λ m. leaf_spot (eqb p j) k m r.spot q.there_is q.one_open (q.child_is ∙ c));
      }

  pub nonterminal_walked : (r : Walked) (n : ℕ) → AtomWalked (eqb p j) n (at + 1) (j + 1) r → kind_of s at ≡ 1 → n ≡ argument_of s at → at < node_count s → WalkedAs s p at j r
  nonterminal_walked r n q k a i = leaf_walked (nonterminal (argument_of s at)) r n q a (λ e h. (by_kind_1 s at k e h).0) i

  pub character_walked : (r : Walked) → AtomWalked (eqb p j) 256 (at + 1) (j + 1) r → kind_of s at ≡ 2 → at < node_count s → WalkedAs s p at j r
  character_walked r q k i = leaf_walked anychar r 256 q refl (λ e h. (by_kind_2 s at k e h).0) i

  pub empty_walked : (r : Walked) → AtomWalked false 256 (at + 1) j r → 5 < kind_of s at → at < node_count s → WalkedAs s p at j r
  empty_walked r q k i =
      record {
        on = omega (arith, q.next_of);
        few = omega (arith, q.one_open);
        next_is = λ e h. subst (λ (u : Exp). r.next ≡ at + nodes u) (sym (by_kind_6 s at k e h).0) q.next_of;
        atom_is = λ e h. subst (λ (u : Exp). r.atom ≡ j + atoms u) (sym (by_kind_6 s at k e h).0) (omega (arith, q.atom_of));
        finds = λ e h. subst (Finds r.spot) (sym (by_kind_6 s at k e h).0) (λ m. nowhere q.there_is);
      }

  module _ (f : Walked) (wf : WalkedAs s p (at + 1) j f) where
    pub star_walked : (r : Walked) → AroundOf f.spot f.next f.atom r → kind_of s at ≡ 5 → WalkedAs s p at j r
    star_walked r q k =
        record {
          on = omega (arith, q.next_of, wf.on);
          few = omega (arith, q.one_more, wf.few);
          next_is = λ e h.
              let v = by_kind_5 s at k e h in
              let m = wf.next_is v.0 (rw add-one v.3) in
              subst (λ (u : Exp). r.next ≡ at + nodes u) (sym v.1) (omega (arith, m, q.next_of));
          atom_is = λ e h.
              let v = by_kind_5 s at k e h in
              subst (λ (u : Exp). r.atom ≡ j + atoms u) (sym v.1) (q.atom_of ∙ wf.atom_is v.0 (rw add-one v.3));
          finds = λ e h.
              let v = by_kind_5 s at k e h in
              subst (Finds r.spot) (sym v.1)
              (λ i. around_spot i f.spot r.spot (nodes_at v.0 (suc i) j p) (child_of (atom_in v.0 j p)) q.there_is q.child_is q.one_more
              (wf.finds v.0 (rw add-one v.3) (suc i)));
        }

    -- two parts
    module _ (k : ℕ) (kind : k ≡ kind_of s at) (parts : k ≤ 5) (not_1 : k ≡ 1 → ⊥) (not_2 : k ≡ 2 → ⊥) (not_5 : k ≡ 5 → ⊥) where
      second_in : (left : ℕ) (l r : Exp) → TreeAt s (suc at) l → TreeAt s (suc at + nodes l) r → j ≤ at + 1 → suc (nodes l + nodes r) ≤ left → at + suc (nodes l + nodes r) ≤ node_count s →
          TreeIn s f.next (left - 1) f.atom
      second_in left l r h h' n b i =
          let m = wf.next_is l (rw add-one h) in
          let o = wf.atom_is l (rw add-one h) in
          record {
            expression = r;
            stands = subst (λ (z : ℕ). TreeAt s z r) (omega (arith, m)) h';
            few = omega arith;
            inside = omega (arith, m);
            number = omega (arith, m, o, n, few_atoms l);
          }

      second_of : (left : ℕ) (e : Exp) → TreeAt s at e → j ≤ at + 1 → nodes e ≤ left → at + nodes e ≤ node_count s → TreeIn s f.next (left - 1) f.atom
      second_of left (atom (nonterminal n)) h = absurd (not_1 (kind ∙ h.0))
      second_of left (atom anychar) h = absurd (not_2 (kind ∙ h.0))
      second_of left (cat l r) h = second_in left l r h.2 h.3
      second_of left (alt l r) h = second_in left l r h.2 h.3
      second_of left (star e) h = absurd (not_5 (kind ∙ h.0))
      second_of left empty h = absurd (omega (arith, h.0))

      -- the second part is a tree for the walk
      pub second_tree : (left : ℕ) → TreeIn s at left j → TreeIn s f.next (left - 1) f.atom
      second_tree left t = second_of left t.expression t.stands t.number t.few t.inside

      module _ (g : Walked) (wg : WalkedAs s p f.next f.atom g) (b : Bool) (which : ltb p f.atom ≡ b) (inner : Spot) (picked : inner ≡ cond b f.spot g.spot)
          (r : Walked) (q : AroundOf inner g.next g.atom r) where
        module _ (e e' : Exp) (h : TreeAt s (suc at) e) (h' : TreeAt s (suc at + nodes e) e') where
          -- the second part's answers, by the first part's end
          right_part : WalkedAs s p (suc at + nodes e) (j + atoms e) g
          right_part =
              subst (λ (z : ℕ). WalkedAs s p (suc at + nodes e) z g) (wf.atom_is e (rw add-one h))
              (subst (λ (z : ℕ). WalkedAs s p z f.atom g) (rw add-one at (wf.next_is e (rw add-one h))) wg)

          past_nodes : r.next ≡ at + suc (nodes e + nodes e')
          past_nodes = omega (arith, q.next_of, right_part.next_is e' h')

          past_atoms : r.atom ≡ j + (atoms e + atoms e')
          past_atoms = omega (arith, q.atom_of, right_part.atom_is e' h')

          picks : (b' : Bool) → b' ≡ b → (i : ℕ) → SpotOf inner (one_of_lem b' (nodes_at e (suc i) j p) (nodes_at e' (suc i + nodes e) (j + atoms e) p)) (child_of (cond b' (atom_in e j p) (atom_in e' (j + atoms e) p)))
          picks true z i =
              let u : inner ≡ f.spot = picked ∙ ap (λ (c : Bool). cond c f.spot g.spot) (sym z) in
              subst (λ (c : Spot). SpotOf c (nodes_at e (suc i) j p) (child_of (atom_in e j p))) (sym u) (wf.finds e (rw add-one h) (suc i))
          picks false z i =
              let u : inner ≡ g.spot = picked ∙ ap (λ (c : Bool). cond c f.spot g.spot) (sym z) in
              subst (λ (c : Spot). SpotOf c (nodes_at e' (suc i + nodes e) (j + atoms e) p) (child_of (atom_in e' (j + atoms e) p))) (sym u) (right_part.finds e' h' (suc i + nodes e))

          finds_pair : (i : ℕ) → SpotOf r.spot (inside_node i (one_of_lem (ltb p (j + atoms e)) (nodes_at e (suc i) j p) (nodes_at e' (suc i + nodes e) (j + atoms e) p)))
              (child_of (cond (ltb p (j + atoms e)) (atom_in e j p) (atom_in e' (j + atoms e) p)))
          finds_pair i =
              let z : ltb p (j + atoms e) ≡ b = ap (ltb p) (sym (wf.atom_is e (rw add-one h))) ∙ which in
              around_spot i inner r.spot (one_of_lem (ltb p (j + atoms e)) (nodes_at e (suc i) j p) (nodes_at e' (suc i + nodes e) (j + atoms e) p))
              (child_of (cond (ltb p (j + atoms e)) (atom_in e j p) (atom_in e' (j + atoms e) p))) q.there_is q.child_is q.one_more (picks (ltb p (j + atoms e)) z i)

        few_open : (b' : Bool) → b' ≡ b → at + suc inner.«open» ≤ node_count s
        few_open true z =
            let u : inner ≡ f.spot = picked ∙ ap (λ (c : Bool). cond c f.spot g.spot) (sym z) in
            let v : inner.«open» ≡ f.spot.«open» = ap (λ (c : Spot). c.«open») u in
            omega (arith, v, wf.few)
        few_open false z =
            let u : inner ≡ g.spot = picked ∙ ap (λ (c : Bool). cond c f.spot g.spot) (sym z) in
            let v : inner.«open» ≡ g.spot.«open» = ap (λ (c : Spot). c.«open») u in
            omega (arith, v, wf.on, wg.few)

        nexts : (e : Exp) → TreeAt s at e → r.next ≡ at + nodes e
        nexts (atom (nonterminal n)) h = absurd (not_1 (kind ∙ h.0))
        nexts (atom anychar) h = absurd (not_2 (kind ∙ h.0))
        nexts (cat l r) h = past_nodes l r h.2 h.3
        nexts (alt l r) h = past_nodes l r h.2 h.3
        nexts (star e) h = absurd (not_5 (kind ∙ h.0))
        nexts empty h = absurd (omega (arith, h.0))

        atoms_past : (e : Exp) → TreeAt s at e → r.atom ≡ j + atoms e
        atoms_past (atom (nonterminal n)) h = absurd (not_1 (kind ∙ h.0))
        atoms_past (atom anychar) h = absurd (not_2 (kind ∙ h.0))
        atoms_past (cat l r) h = past_atoms l r h.2 h.3
        atoms_past (alt l r) h = past_atoms l r h.2 h.3
        atoms_past (star e) h = absurd (not_5 (kind ∙ h.0))
        atoms_past empty h = absurd (omega (arith, h.0))

        found : (e : Exp) → TreeAt s at e → Finds r.spot e
        found (atom (nonterminal n)) h = absurd (not_1 (kind ∙ h.0))
        found (atom anychar) h = absurd (not_2 (kind ∙ h.0))
        found (cat l r) h = finds_pair l r h.2 h.3
        found (alt l r) h = finds_pair l r h.2 h.3
        found (star e) h = absurd (not_5 (kind ∙ h.0))
        found empty h = absurd (omega (arith, h.0))

        pub pair_walked : WalkedAs s p at j r
        pair_walked =
            record {
              on = omega (arith, q.next_of, wf.on, wg.on);
              few = omega (arith, q.one_more, few_open b refl);
              next_is = nexts;
              atom_is = atoms_past;
              finds = found;
            }
