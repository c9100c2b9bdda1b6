-- On the way past a tree what is left to pass is a list of trees, one after another from the next node on.
-- Assumes nothing.
use mathlib.Core.Path.{◌≡◌, sym, ap, subst}
use mathlib.Core.List.{List, [], ◌∷◌}
use Prim.Native.Nat.{ℕ, ◌+◌, ◌≤◌, ◌<◌}
use native.Mathlib.Omega.{arith}
use lib.ListN.{length}
use Rattle.expressions.specs.Expr.{Exp, atom, cat, alt, star, empty, nonterminal, anychar, nodes, atoms}
use Rattle.layout.specs.Layout.{node_count}
use Rattle.layout.specs.Records.{kind_of}
use Rattle.trees.specs.Trees.{TreeAt}
use Rattle.trees.specs.Tally.{TreeIn, PastOf}
use Rattle.trees.proofs.Unique.{nodes_pos, one_tree}
use Rattle.ways.specs.declared.Passing.{Passing}
use Rattle.ways.specs.Past.{OneOn, PassedBy}

abbrev Stand : List ℕ → ℕ → List Exp → Type 0
Stand s i [] = Unit {0}
Stand s i (e ∷ es) = TreeAt s i e × Stand s (i + nodes e) es

abbrev all_nodes : List Exp → ℕ
all_nodes [] = 0
all_nodes (e ∷ es) = nodes e + all_nodes es

abbrev all_atoms : List Exp → ℕ
all_atoms [] = 0
all_atoms (e ∷ es) = atoms e + all_atoms es

each_has_one : (es : List Exp) → length es ≤ all_nodes es
each_has_one [] = omega arith
each_has_one (e ∷ es) = omega (arith, nodes_pos e, each_has_one es)

-- whole is the tree that is passed
pub record Left (s : List ℕ) (at : ℕ) (w : Passing) : Type 0 where
  pub room : w.node + w.left ≤ node_count s
  pub few : w.atoms ≤ w.node
  pub whole : Exp
  pub stands : TreeAt s at whole
  pub inside : at + nodes whole ≤ node_count s
  pub trees : List Exp
  pub next : Stand s w.node trees
  pub as_many : w.left ≡ length trees
  pub nodes_are : w.node + all_nodes trees ≡ at + nodes whole
  pub atoms_are : w.atoms + all_atoms trees ≡ atoms whole

pub all_left : {s : List ℕ} {at : ℕ} → TreeIn s at 256 0 → (w : Passing) → w.node ≡ at → w.atoms ≡ 0 → w.left ≡ 1 → Left s at w
all_left {s} {at} h w n a l =
    let e = h.expression in
    record {
      room = omega (arith, h.inside, nodes_pos e);
      few = omega arith;
      whole = e;
      stands = h.stands;
      inside = h.inside;
      trees = e ∷ [];
      next = (subst (λ (i : ℕ). TreeAt s i e) (sym n) h.stands, tt);
      as_many = l;
      nodes_are = omega arith;
      atoms_are = omega arith;
    }

module _ {s : List ℕ} {at : ℕ} {w : Passing} (h : Left s at w) where
  pub below : 1 ≤ w.left → w.node < node_count s
  below b = omega (arith, h.room, b)

  pub none_left : w.left ≡ 0 → PassedBy s at w
  none_left z = record { passes = λ e t. by h.trees h.as_many h.nodes_are h.atoms_are e (one_tree s at h.whole e h.stands t) }
    where
      by : (es : List Exp) → w.left ≡ length es → w.node + all_nodes es ≡ at + nodes h.whole → w.atoms + all_atoms es ≡ atoms h.whole → (e : Exp) → h.whole ≡ e → PastOf at 0 e w.node w.atoms
      by [] l n a e q = record { next_is = omega (arith, n, ap nodes q); atom_is = omega (arith, a, ap atoms q) }
      by (f ∷ es) l n a e q = absurd (omega arith)

  -- one node further
  module _ (b : 1 ≤ w.left) (k : ℕ) (kind : k ≡ kind_of s w.node) (r : Passing) (on : OneOn k w r) where
    -- the trees that are left then, which have one node less
    module _ (es : List Exp) (x : Stand s r.node es) (l : r.left ≡ length es) (n : r.node + all_nodes es ≡ at + nodes h.whole) (a : r.atoms + all_atoms es ≡ atoms h.whole)
        (more : r.atoms ≤ w.atoms + 1) where
      then : Left s at r
      then = record {
        room = omega (arith, each_has_one es, l, n, h.inside);
        few = omega (arith, more, on.node_is, h.few);
        whole = h.whole;
        stands = h.stands;
        inside = h.inside;
        trees = es;
        next = x;
        as_many = l;
        nodes_are = n;
        atoms_are = a;
      }

    moved : (e : Exp) {i j : ℕ} → i ≡ j → TreeAt s i e → TreeAt s j e
    moved e q t = subst (λ (i : ℕ). TreeAt s i e) q t

    moved_all : (es : List Exp) {i j : ℕ} → i ≡ j → Stand s i es → Stand s j es
    moved_all es q t = subst (λ (i : ℕ). Stand s i es) q t

    by : (es : List Exp) → Stand s w.node es → w.left ≡ length es → w.node + all_nodes es ≡ at + nodes h.whole → w.atoms + all_atoms es ≡ atoms h.whole → Left s at r
    by [] x l n a = absurd (omega arith)
    by (atom (nonterminal m) ∷ es) x l n a =
        let o = on.leaf (omega (arith, kind, x.0.0)) in
        then es (moved_all es (omega (arith, on.node_is)) x.1) (omega (arith, o)) (omega (arith, on.node_is)) (omega (arith, o)) (omega (arith, o))
    by (atom anychar ∷ es) x l n a =
        let o = on.leaf (omega (arith, kind, x.0.0)) in
        then es (moved_all es (omega (arith, on.node_is)) x.1) (omega (arith, o)) (omega (arith, on.node_is)) (omega (arith, o)) (omega (arith, o))
    by (cat e f ∷ es) x l n a =
        let o = on.two (omega (arith, kind, x.0.0)) (omega (arith, kind, x.0.0)) in
        then (e ∷ f ∷ es) (moved e (omega (arith, on.node_is)) x.0.2, (moved f (omega (arith, on.node_is)) x.0.3, moved_all es (omega (arith, on.node_is)) x.1)) (omega (arith, o))
        (omega (arith, on.node_is)) (omega (arith, o)) (omega (arith, o))
    by (alt e f ∷ es) x l n a =
        let o = on.two (omega (arith, kind, x.0.0)) (omega (arith, kind, x.0.0)) in
        then (e ∷ f ∷ es) (moved e (omega (arith, on.node_is)) x.0.2, (moved f (omega (arith, on.node_is)) x.0.3, moved_all es (omega (arith, on.node_is)) x.1)) (omega (arith, o))
        (omega (arith, on.node_is)) (omega (arith, o)) (omega (arith, o))
    by (star e ∷ es) x l n a =
        let o = on.only (omega (arith, kind, x.0.0)) in
        then (e ∷ es) (moved e (omega (arith, on.node_is)) x.0.2, moved_all es (omega (arith, on.node_is)) x.1) (omega (arith, o)) (omega (arith, on.node_is)) (omega (arith, o)) (omega (arith, o))
    by (empty ∷ es) x l n a =
        let o = on.none (omega (arith, kind, x.0.0)) in
        then es (moved_all es (omega (arith, on.node_is)) x.1) (omega (arith, o)) (omega (arith, on.node_is)) (omega (arith, o)) (omega (arith, o))

    pub one_less : Left s at r
    one_less = by h.trees h.next h.as_many h.nodes_are h.atoms_are
