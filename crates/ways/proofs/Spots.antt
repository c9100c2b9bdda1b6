-- The kind of the first node tells which tree stands at a spot, and where the trees behind that node stand; a production's whole tree stands at one.
-- Assumes nothing.
use mathlib.Core.Path.{◌≡◌, sym, ◌∙◌, subst}
use mathlib.Core.List.{List}
use Prim.Native.Nat.{ℕ, suc, ◌+◌, ◌-◌, ◌≤◌, ◌<◌}
use native.Mathlib.Omega.{arith}
use native.Mathlib.Numerals.{add-one}
use Rattle.expressions.specs.Expr.{Atom, Exp, atom, cat, alt, star, empty, nonterminal, anychar, nodes, atoms, Content, nothing, tree}
use Rattle.layout.specs.Layout.{production_count, node_count}
use Rattle.layout.specs.Records.{kind_of, first_node_of, node_count_of}
use Rattle.trees.specs.Trees.{TreeAt, ContentAt, Trees}
use Rattle.trees.specs.Parsed.{RunsInside}
use Rattle.trees.specs.Tally.{TreeIn}
use Rattle.trees.proofs.Tallies.{few_atoms}
use Rattle.trees.proofs.Unique.{nodes_pos}
use Rattle.ways.specs.declared.Spot.{Spot}
use Rattle.ways.specs.declared.Parts.{Parts}
use Rattle.ways.specs.declared.Passing.{Passing}
use Rattle.ways.specs.Spot.{At, SpotIn, PartOf, PartsOf}
use Rattle.ways.specs.Past.{PassedBy}

-- for a concatenation, or a union, of any two parts that stand behind the first node
abbrev Two : List ℕ → Spot → (Exp → Type 0) → (Exp → Exp → Exp) → Type 0
Two s t P join = (l r : Exp) → TreeAt s (suc t.node) l → TreeAt s (suc t.node + nodes l) r → P (join l r)

module _ (s : List ℕ) (t : Spot) (k : ℕ) (kind : k ≡ kind_of s t.node) where
  module _ (P : Exp → Type 0) {i j : ℕ} where
    pub by_leaf : k < 3 → ((a : Atom) → At s t (atom a) i j → P (atom a)) → (e : Exp) → At s t e i j → P e
    by_leaf b f (atom a) h = f a h
    by_leaf b f (cat l r) h = absurd (omega (arith, h.stands.0))
    by_leaf b f (alt l r) h = absurd (omega (arith, h.stands.0))
    by_leaf b f (star e) h = absurd (omega (arith, h.stands.0))
    by_leaf b f empty h = absurd (omega (arith, h.stands.0))

    pub by_star : k ≡ 5 → ((e : Exp) → TreeAt s (suc t.node) e → P (star e)) → (e : Exp) → At s t e i j → P e
    by_star b f (atom (nonterminal n)) h = absurd (omega (arith, h.stands.0))
    by_star b f (atom anychar) h = absurd (omega (arith, h.stands.0))
    by_star b f (cat l r) h = absurd (omega (arith, h.stands.0))
    by_star b f (alt l r) h = absurd (omega (arith, h.stands.0))
    by_star b f (star e) h = f e h.stands.2
    by_star b f empty h = absurd (omega (arith, h.stands.0))

    pub by_empty : 5 < k → P empty → (e : Exp) → At s t e i j → P e
    by_empty b f (atom (nonterminal n)) h = absurd (omega (arith, h.stands.0))
    by_empty b f (atom anychar) h = absurd (omega (arith, h.stands.0))
    by_empty b f (cat l r) h = absurd (omega (arith, h.stands.0))
    by_empty b f (alt l r) h = absurd (omega (arith, h.stands.0))
    by_empty b f (star e) h = absurd (omega (arith, h.stands.0))
    by_empty b f empty h = f

    -- a star, or the empty node: both may be nothing but their own brackets
    pub by_bare : 4 < k → ((e : Exp) → P (star e)) → P empty → (e : Exp) → At s t e i j → P e
    by_bare b f g (atom (nonterminal n)) h = absurd (omega (arith, h.stands.0))
    by_bare b f g (atom anychar) h = absurd (omega (arith, h.stands.0))
    by_bare b f g (cat l r) h = absurd (omega (arith, h.stands.0))
    by_bare b f g (alt l r) h = absurd (omega (arith, h.stands.0))
    by_bare b f g (star e) h = f e
    by_bare b f g empty h = g

    pub by_two : 3 ≤ k → k ≤ 4 → (k ≡ 3 → Two s t P cat) → ((k ≡ 3 → ⊥) → Two s t P alt) → (e : Exp) → At s t e i j → P e
    by_two a b f g (atom (nonterminal n)) h = absurd (omega (arith, h.stands.0))
    by_two a b f g (atom anychar) h = absurd (omega (arith, h.stands.0))
    by_two a b f g (cat l r) h = f (kind ∙ h.stands.0) l r h.stands.2 h.stands.3
    by_two a b f g (alt l r) h = g (λ e. omega (arith, h.stands.0)) l r h.stands.2 h.stands.3
    by_two a b f g (star e) h = absurd (omega (arith, h.stands.0))
    by_two a b f g empty h = absurd (omega (arith, h.stands.0))

    pub by_cat : k ≡ 3 → Two s t P cat → (e : Exp) → At s t e i j → P e
    by_cat c f e h = by_two (omega arith) (omega arith) (λ _. f) (λ n. absurd (n c)) e h

    pub by_alt : 3 ≤ k → k ≤ 4 → (k ≡ 3 → ⊥) → Two s t P alt → (e : Exp) → At s t e i j → P e
    by_alt a b n g e h = by_two a b (λ c. absurd (n c)) (λ _. g) e h

pub five : {k : ℕ} → k ≤ 5 → 4 < k → k ≡ 5
five a b = omega (arith, a, b)

-- behind a star
pub part_at : (s : List ℕ) (t r : Spot) → PartOf t r → (e : Exp) → TreeAt s (suc t.node) e → (i j : ℕ) → t.bracket ≡ i → t.atom ≡ j → At s r e (suc i) j
part_at s t r p e h i j x y =
    record { stands = subst (λ (n : ℕ). TreeAt s n e) (omega (arith, p.node_is)) h; bracket_is = omega (arith, p.bracket_is); atom_is = p.atom_is ∙ y }

module _ (s : List ℕ) (t : Spot) (k : ℕ) (kind : k ≡ kind_of s t.node) where
  part_of : (r : Spot) → PartOf t r → k ≡ 5 → t.node + t.nodes ≤ node_count s → t.bracket + t.nodes ≤ 33 → t.atom ≤ t.bracket →
      (e : Exp) → TreeAt s t.node e → t.nodes ≡ nodes e → SpotIn s r
  part_of r p b x y z (atom (nonterminal n)) h q = absurd (omega (arith, h.0))
  part_of r p b x y z (atom anychar) h q = absurd (omega (arith, h.0))
  part_of r p b x y z (cat l l') h q = absurd (omega (arith, h.0))
  part_of r p b x y z (alt l l') h q = absurd (omega (arith, h.0))
  part_of r p b x y z (star e) h q =
      record {
        any = omega (arith, nodes_pos e);
        inside = omega (arith, nodes_pos e);
        few = omega (arith, nodes_pos e);
        number = omega arith;
        expression = e;
        stands = subst (λ (n : ℕ). TreeAt s n e) (omega (arith, p.node_is)) h.2;
        nodes_are = omega (arith, p.nodes_are);
      }
  part_of r p b x y z empty h q = absurd (omega (arith, h.0))

  pub part_in : (r : Spot) → PartOf t r → k ≡ 5 → SpotIn s t → SpotIn s r
  part_in r p b h = part_of r p b h.inside h.few h.number h.expression h.stands h.nodes_are

-- the two behind a concatenation or a union
module _ (s : List ℕ) (t : Spot) (low : 3 ≤ kind_of s t.node) (high : kind_of s t.node ≤ 4) where
  pub record TwoIn : Type 0 where
    pub left : Exp
    pub right : Exp
    pub left_stands : TreeAt s (suc t.node) left
    pub right_stands : TreeAt s (suc t.node + nodes left) right
    pub all : t.nodes ≡ suc (nodes left + nodes right)

  two_of : (e : Exp) → TreeAt s t.node e → t.nodes ≡ nodes e → TwoIn
  two_of (atom (nonterminal n)) h q = absurd (omega (arith, h.0))
  two_of (atom anychar) h q = absurd (omega (arith, h.0))
  two_of (cat l r) h q = record { left = l; right = r; left_stands = h.2; right_stands = h.3; all = q }
  two_of (alt l r) h q = record { left = l; right = r; left_stands = h.2; right_stands = h.3; all = q }
  two_of (star e) h q = absurd (omega (arith, h.0))
  two_of empty h q = absurd (omega (arith, h.0))

  pub two_in : SpotIn s t → TwoIn
  two_in h = two_of h.expression h.stands h.nodes_are

  -- what the walk over the first asks
  pub first_tree : SpotIn s t → node_count s ≤ 256 → TreeIn s (t.node + 1) 256 0
  first_tree h small =
      let v = two_in h in
      record { expression = v.left; stands = rw add-one v.left_stands; few = omega (arith, v.all, h.inside); inside = omega (arith, v.all, h.inside); number = omega arith }

  module _ (h : SpotIn s t) (w : Passing) (passed : PassedBy s (t.node + 1) w) where
    -- and what it tells
    pub record Passed : Type 0 where
      pub next_is : w.node ≡ suc t.node + nodes (two_in h).left
      pub atom_is : w.atoms ≡ atoms (two_in h).left
      pub room : w.node + 1 ≤ t.node + t.nodes
      pub past : t.node + 2 ≤ w.node
      pub few : w.atoms + t.node + 1 ≤ w.node

    pub passed_by : Passed
    passed_by =
        let v = two_in h in
        let m = passed.passes v.left (rw add-one v.left_stands) in
        record {
          next_is = omega (arith, m);
          atom_is = omega (arith, m);
          room = omega (arith, m, v.all, nodes_pos v.right);
          past = omega (arith, m, nodes_pos v.left);
          few = omega (arith, m, few_atoms v.left);
        }

    module _ (r : Parts) (nodes_1 : r.first.nodes ≡ w.node - (t.node + 1)) (node_1 : r.first.node ≡ t.node + 1) (bracket_1 : r.first.bracket ≡ t.bracket + 1)
        (atom_1 : r.first.atom ≡ t.atom) (nodes_2 : r.second.nodes ≡ t.nodes - 1 - (w.node - (t.node + 1))) (node_2 : r.second.node ≡ w.node)
        (bracket_2 : r.second.bracket ≡ t.bracket + 1 + (w.node - (t.node + 1))) (atom_2 : r.second.atom ≡ t.atom + w.atoms) where
      first_in : SpotIn s r.first
      first_in =
          let v = two_in h in
          let m = passed_by in
          record {
            any = omega (arith, m.past);
            inside = omega (arith, m.room, m.past, h.inside);
            few = omega (arith, m.room, m.past, h.few);
            number = omega (arith, h.number);
            expression = v.left;
            stands = subst (λ (n : ℕ). TreeAt s n v.left) (omega arith) v.left_stands;
            nodes_are = omega (arith, m.next_is);
          }

      second_in : SpotIn s r.second
      second_in =
          let v = two_in h in
          let m = passed_by in
          record {
            any = omega (arith, m.room, m.past);
            inside = omega (arith, m.room, m.past, h.inside);
            few = omega (arith, m.room, m.past, h.few);
            number = omega (arith, m.few, m.past, h.number);
            expression = v.right;
            stands = subst (λ (n : ℕ). TreeAt s n v.right) (omega (arith, m.next_is)) v.right_stands;
            nodes_are = omega (arith, m.next_is, v.all);
          }

      pub parts_are : PartsOf s t r
      parts_are =
          let n = passed_by in
          record {
            both = omega (arith, n.room, n.past);
            first_in = first_in;
            second_in = second_in;
            first_at = λ e x i j p q. record { stands = subst (λ (n : ℕ). TreeAt s n e) (omega arith) x; bracket_is = omega arith; atom_is = atom_1 ∙ q };
            second_at = λ e f x y i j p q.
                let m = passed.passes e (rw add-one x) in
                record {
                  stands = subst (λ (n : ℕ). TreeAt s n f) (omega (arith, m)) y;
                  bracket_is = omega (arith, m);
                  atom_is = omega (arith, m);
                };
          }

-- a production's nodes are a tree for the walks, whether or not rule S finds a fault
module _ (s : List ℕ) (q n : ℕ) (nodes_are : n ≡ node_count_of s q) (some : n ≡ 0 → ⊥) (t : Spot) (node_is : t.node ≡ first_node_of s q) (count_is : t.nodes ≡ n)
    (bracket_1 : t.bracket ≡ 1) (atom_1 : t.atom ≡ 1) where
  spot_of : (c : Content) → ContentAt s q c → t.node + n ≤ node_count s → n ≤ 32 → SpotIn s t
  spot_of nothing h b small = absurd (some (nodes_are ∙ h))
  spot_of (tree e) h b small =
      record {
        any = omega (arith, nodes_pos e, h.1);
        inside = omega arith;
        few = omega arith;
        number = omega arith;
        expression = e;
        stands = subst (λ (z : ℕ). TreeAt s z e) (sym node_is) h.0;
        nodes_are = omega (arith, h.1);
      }

  pub spot_there : Trees s → RunsInside s → q < production_count s → node_count_of s q ≤ 32 → SpotIn s t
  spot_there trees runs there small =
      let c = trees.each q there in
      spot_of c.0 c.1 (omega (arith, runs.inside q there)) (omega (arith, small))
