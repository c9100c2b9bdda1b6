-- The walks over a tree: each return from what the walks over the parts handed back.
-- Assumes nothing.
use mathlib.Core.Path.{◌≡◌, sym, ◌∙◌, ap, subst}
use mathlib.Core.Bool.{cond}
use mathlib.Core.List.{List, [], ◌∷◌, ◌++◌, append_assoc, append-nil}
use Prim.Native.Nat.{ℕ, suc, ◌+◌, ◌-◌, ◌≤◌, ◌<◌}
use native.Mathlib.Omega.{arith}
use lib.Dec.{ltb}
use lib.ListN.{length, set, replicate, length-append}
use lib.Seq.{set_at}
use Rattle.limits.specs.Limits.{nodes_at_most}
use Rattle.expressions.specs.Expr.{Exp, nodes, atoms}
use Rattle.layout.specs.Records.{kind_of}
use Rattle.trees.specs.Trees.{TreeAt}
use Rattle.ways.specs.declared.Spot.{Spot}
use Rattle.ways.specs.declared.Parts.{Parts}
use Rattle.ways.specs.Spot.{PartOf, PartsOf}
use Rattle.ways.proofs.Spots.{by_leaf, by_star, by_empty, by_bare, by_two, by_cat, by_alt, part_at}
use Rattle.shortest.specs.declared.Row.{Row}
use Rattle.shortest.specs.Rows.{shorter, shortest_word, shortest_in}
use Rattle.shortest.specs.Held.{RowIs}
use Rattle.shortest.specs.Walks.{Longer, WordBehind, AtomBehind}
use Rattle.shortest.proofs.Least.{if_first, if_second}

-- an atom takes the place of the first 0
pub row_longer : (w : Row) (atom : ℕ) (r : Row) → w.length < nodes_at_most → r.length ≡ w.length + 1 → r.bytes ≡ set w.bytes w.length atom → Longer w atom r
row_longer w atom r room long bytes = record { long = long; is = more }
  where
    more : (row : List ℕ) → RowIs row w → RowIs (row ++ atom ∷ []) r
    more row h =
        let n = length-append row (atom ∷ []) in
        let k = nodes_at_most - length (row ++ atom ∷ []) in
        let one : nodes_at_most - length row ≡ suc k = omega (arith, n, h.length_is, room) in
        let as_is : w.bytes ≡ row ++ 0 ∷ replicate k 0 = h.bytes_are ∙ ap (λ (z : ℕ). row ++ replicate z 0) one in
        record {
          length_is = omega (arith, n, long, h.length_is);
          bytes_are =
              bytes ∙ ap (λ (z : List ℕ). set z w.length atom) as_is ∙ set_at row 0 (replicate k 0) atom w.length (sym h.length_is)
              ∙ sym (append_assoc row (atom ∷ []) (replicate k 0));
        }

row_same : (row : List ℕ) (w : Row) → RowIs row w → RowIs (row ++ []) w
row_same row w h = subst (λ (z : List ℕ). RowIs z w) (sym (append-nil row)) h

-- of two rows that begin alike the one that is shorter
module _ (row x y : List ℕ) (a b : Row) (hx : RowIs (row ++ x) a) (hy : RowIs (row ++ y) b) where
  right_shorter : b.length < a.length → RowIs (row ++ shorter x y) b
  right_shorter h =
      let less : length y < length x = omega (arith, h, hx.length_is, hy.length_is, length-append row x, length-append row y) in
      subst (λ (z : List ℕ). RowIs (row ++ z) b) (sym (if_first (length y) (length x) y x less)) hy

  left_as_short : a.length ≤ b.length → RowIs (row ++ shorter x y) a
  left_as_short h =
      let less : length x ≤ length y = omega (arith, h, hx.length_is, hy.length_is, length-append row x, length-append row y) in
      subst (λ (z : List ℕ). RowIs (row ++ z) a) (sym (if_second (length y) (length x) y x less)) hx

module _ (s : List ℕ) (t : Spot) (k : ℕ) (kind : k ≡ kind_of s t.node) (w : Row) where
  pub word_bare : 4 < k → WordBehind s t w w
  word_bare b = record {
    few = omega arith;
    is = λ e i j at row h. by_bare s t k kind (λ (u : Exp). RowIs (row ++ shortest_word u j) w) b (λ _. row_same row w h) (row_same row w h) e at;
  }

  pub atom_bare : (p : ℕ) → 5 < k → AtomBehind s t p w w
  atom_bare p b = record { is = λ e i j at row h. by_empty s t k kind (λ (u : Exp). RowIs (row ++ shortest_in u j p) w) b (row_same row w h) e at }

  module _ (b : k < 3) (r : Row) (one : Longer w t.atom r) where
    its_atom : (j : ℕ) → t.atom ≡ j → (row : List ℕ) → RowIs row w → RowIs (row ++ j ∷ []) r
    its_atom j e row h = subst (λ (z : ℕ). RowIs (row ++ z ∷ []) r) e (one.is row h)

    pub word_leaf : 1 ≤ t.nodes → WordBehind s t w r
    word_leaf some = record {
      few = omega (arith, one.long, some);
      is = λ e i j at row h. by_leaf s t k kind (λ (u : Exp). RowIs (row ++ shortest_word u j) r) b (λ a x. its_atom j x.atom_is row h) e at;
    }

    pub atom_leaf : (p : ℕ) → AtomBehind s t p w r
    atom_leaf p = record { is = λ e i j at row h. by_leaf s t k kind (λ (u : Exp). RowIs (row ++ shortest_in u j p) r) b (λ a x. its_atom j x.atom_is row h) e at }

  pub atom_star : (p : ℕ) → k ≡ 5 → (only : Spot) → PartOf t only → (r : Row) → AtomBehind s only p w r → AtomBehind s t p w r
  atom_star p b only part r f = record {
    is = λ e i j at row h. by_star s t k kind (λ (u : Exp). RowIs (row ++ shortest_in u j p) r) b
        (λ o y. f.is o (suc i) j (part_at s t only part o y i j at.bracket_is at.atom_is) row h) e at;
  }

  module _ (two : Parts) (parts : PartsOf s t two) where
    module _ (a : Row) (f : WordBehind s two.first w a) where
      pub word_cat : k ≡ 3 → (r : Row) → WordBehind s two.second a r → WordBehind s t w r
      word_cat c r g = record {
        few = omega (arith, f.few, g.few, parts.both);
        is = λ e i j at row h. by_cat s t k kind (λ (u : Exp). RowIs (row ++ shortest_word u j) r) c
            (λ l m x y. subst (λ (z : List ℕ). RowIs z r) (append_assoc row (shortest_word l j) (shortest_word m (j + atoms l)))
            (g.is m (suc i + nodes l) (j + atoms l) (parts.second_at l m x y i j at.bracket_is at.atom_is) (row ++ shortest_word l j)
            (f.is l (suc i) j (parts.first_at l x i j at.bracket_is at.atom_is) row h)))
            e at;
      }

      module _ (low : 3 ≤ k) (high : k ≤ 4) (n : k ≡ 3 → ⊥) (b : Row) (g : WordBehind s two.second w b) where
        pub word_right : b.length < a.length → WordBehind s t w b
        word_right less = record {
          few = omega (arith, g.few, parts.both);
          is = λ e i j at row h. by_alt s t k kind (λ (u : Exp). RowIs (row ++ shortest_word u j) b) low high n
              (λ l m x y. right_shorter row _ _ a b (f.is l (suc i) j (parts.first_at l x i j at.bracket_is at.atom_is) row h)
              (g.is m (suc i + nodes l) (j + atoms l) (parts.second_at l m x y i j at.bracket_is at.atom_is) row h) less)
              e at;
        }

        pub word_left : a.length ≤ b.length → WordBehind s t w a
        word_left less = record {
          few = omega (arith, f.few, parts.both);
          is = λ e i j at row h. by_alt s t k kind (λ (u : Exp). RowIs (row ++ shortest_word u j) a) low high n
              (λ l m x y. left_as_short row _ _ a b (f.is l (suc i) j (parts.first_at l x i j at.bracket_is at.atom_is) row h)
              (g.is m (suc i + nodes l) (j + atoms l) (parts.second_at l m x y i j at.bracket_is at.atom_is) row h) less)
              e at;
        }

    module _ (p : ℕ) (r : Row) where
      -- the row is that of the part that has p
      module _ (i j : ℕ) (bracket : t.bracket ≡ i) (atom : t.atom ≡ j) (row : List ℕ) (l m : Exp) (x : TreeAt s (suc t.node) l)
          (y : TreeAt s (suc t.node + nodes l) m) (z : List ℕ) where
        bound : two.second.atom ≡ j + atoms l
        bound = (parts.second_at l m x y i j bracket atom).atom_is

        in_first : p < two.second.atom → RowIs row w → AtomBehind s two.first p w r → RowIs (row ++ cond (ltb p (j + atoms l)) (shortest_in l j p) z) r
        in_first less h f =
            subst (λ (u : List ℕ). RowIs (row ++ u) r) (sym (if_first p (j + atoms l) (shortest_in l j p) z (omega (arith, less, bound))))
            (f.is l (suc i) j (parts.first_at l x i j bracket atom) row h)

        in_second : two.second.atom ≤ p → RowIs (row ++ z) r → RowIs (row ++ cond (ltb p (j + atoms l)) (shortest_in l j p) z) r
        in_second above h = subst (λ (u : List ℕ). RowIs (row ++ u) r) (sym (if_second p (j + atoms l) (shortest_in l j p) z (omega (arith, above, bound)))) h

      pub atom_first : 3 ≤ k → k ≤ 4 → p < two.second.atom → AtomBehind s two.first p w r → AtomBehind s t p w r
      atom_first low high less f = record {
        is = λ e i j at row h. by_two s t k kind (λ (u : Exp). RowIs (row ++ shortest_in u j p) r) low high
            (λ _ l m x y. in_first i j at.bracket_is at.atom_is row l m x y _ less h f)
            (λ _ l m x y. in_first i j at.bracket_is at.atom_is row l m x y _ less h f) e at;
      }

      pub atom_second : k ≡ 3 → two.second.atom ≤ p → (a : Row) → WordBehind s two.first w a → AtomBehind s two.second p a r → AtomBehind s t p w r
      atom_second c above a f g = record {
        is = λ e i j at row h. by_cat s t k kind (λ (u : Exp). RowIs (row ++ shortest_in u j p) r) c
            (λ l m x y. in_second i j at.bracket_is at.atom_is row l m x y (shortest_word l j ++ shortest_in m (j + atoms l) p) above
            (subst (λ (z : List ℕ). RowIs z r) (append_assoc row (shortest_word l j) (shortest_in m (j + atoms l) p))
            (g.is m (suc i + nodes l) (j + atoms l) (parts.second_at l m x y i j at.bracket_is at.atom_is) (row ++ shortest_word l j)
            (f.is l (suc i) j (parts.first_at l x i j at.bracket_is at.atom_is) row h))))
            e at;
      }

      pub atom_right : 3 ≤ k → k ≤ 4 → (k ≡ 3 → ⊥) → two.second.atom ≤ p → AtomBehind s two.second p w r → AtomBehind s t p w r
      atom_right low high n above g = record {
        is = λ e i j at row h. by_alt s t k kind (λ (u : Exp). RowIs (row ++ shortest_in u j p) r) low high n
            (λ l m x y. in_second i j at.bracket_is at.atom_is row l m x y (shortest_in m (j + atoms l) p) above
            (g.is m (suc i + nodes l) (j + atoms l) (parts.second_at l m x y i j at.bracket_is at.atom_is) row h))
            e at;
      }
