-- The walks over a tree: each return from what the walks behind the node and the operations handed back.
-- Assumes nothing.
use mathlib.Core.Path.{◌≡◌, refl, sym, ◌∙◌, ap, subst}
use mathlib.Core.Bool.{Bool}
use mathlib.Core.List.{List, [], ◌∷◌}
use Prim.Native.Nat.{ℕ, suc, ◌+◌, ◌*◌, ◌-◌, ◌≤◌, ◌<◌}
use native.Mathlib.Omega.{arith}
use lib.Dec.{eqb}
use borrow.Author.Tests.{eq-eqb, ne_eqb}
use Rattle.expressions.specs.Expr.{Atom, Exp, atom, nonterminal, anychar, nodes, atoms}
use Rattle.expressions.specs.Grammar.{Production, tags_of, can_be}
use Rattle.layout.specs.Records.{kind_of, argument_of}
use Rattle.parting.specs.Firsts.{Firsts, no_string, one_string, either, both, goes_round, when, each_opened, each_closed, firsts_through, firsts_into, firsts_out_of, firsts_across}
use Rattle.trees.specs.declared.Symbol.{Symbol}
use Rattle.trees.specs.GrammarAt.{GrammarIs}
use Rattle.trees.specs.Symbol.{next_of}
use Rattle.ways.specs.declared.Spot.{Spot}
use Rattle.ways.specs.declared.Parts.{Parts}
use Rattle.ways.specs.Held.{kind_number, argument_number}
use Rattle.ways.specs.Spot.{At, SpotIn, PartOf, PartsOf}
use Rattle.ways.specs.Walks.{CanIs}
use Rattle.ways.proofs.Spots.{by_leaf, by_star, by_empty, by_cat, by_alt, part_at}
use Rattle.witness.specs.declared.Pair.{Pair}
use Rattle.witness.specs.Held.{longest, HoldsWithin, WhenIs, OpenedAs, ClosedAs, EitherAs, BothAs, GoesRoundAs}
use Rattle.witness.specs.Walks.{FirstsThrough, FirstsInto, FirstsOutOf, FirstsAcross}

wider : {a b : ℕ} {φ : Firsts} {r : Pair} (a' b' : ℕ) → a ≤ a' → b ≤ b' → HoldsWithin a b φ r → HoldsWithin a' b' φ r
wider a' b' x y h = record { few = omega (arith, h.few, x); few_more = omega (arith, h.few_more, y); held = h.held }

module _ (s : List ℕ) (t : Spot) (k : ℕ) (kind : k ≡ kind_of s t.node) (spot : SpotIn s t) where
  -- from start to end
  pub through_leaf : k < 3 → (r : Pair) → HoldsWithin 0 0 no_string r → FirstsThrough s t r
  through_leaf b r z =
      record {
        is = λ e i j at. by_leaf s t k kind (λ (u : Exp). HoldsWithin (2 * t.nodes) (2 * t.nodes) (firsts_through u i) r) b
            (λ a _. wider (2 * t.nodes) (2 * t.nodes) (omega arith) (omega arith) z) e at;
      }

  -- the empty node: its own brackets, and no atom
  module _ (b : 5 < k) where
    pub through_empty : (unit shut r : Pair) → HoldsWithin 0 0 (one_string []) unit → ClosedAs t.bracket unit shut → OpenedAs t.bracket shut r → FirstsThrough s t r
    through_empty unit shut r u cl op =
        record {
          is = λ e i j at. by_empty s t k kind (λ (u : Exp). HoldsWithin (2 * t.nodes) (2 * t.nodes) (firsts_through u i) r) b
              (let w = cl.is i at.bracket_is (one_string []) 0 0 u (omega arith) (omega arith) in
              let z = op.is i at.bracket_is _ (0 + 1) (0 + 1) w (omega arith) (omega arith) in
              wider (2 * t.nodes) (2 * t.nodes) (omega (arith, spot.any)) (omega (arith, spot.any)) z)
              e at;
        }

    pub into_empty : (x : Symbol) (r : Pair) → HoldsWithin 0 0 no_string r → FirstsInto s t x r
    into_empty x r z =
        record {
          is = λ gr γ e i j at. by_empty s t k kind (λ (u : Exp). HoldsWithin (2 * t.nodes) (4 * t.nodes) (firsts_into (tags_of gr) u i (next_of x)) r) b
              (wider (2 * t.nodes) (4 * t.nodes) (omega arith) (omega arith) z) e at;
        }

    pub out_empty : (p : ℕ) (r : Pair) → HoldsWithin 0 0 no_string r → FirstsOutOf s t p r
    out_empty p r z =
        record {
          is = λ e i j at. by_empty s t k kind (λ (u : Exp). HoldsWithin (2 * t.nodes) (4 * t.nodes) (firsts_out_of u i j p) r) b
              (wider (2 * t.nodes) (4 * t.nodes) (omega arith) (omega arith) z) e at;
        }

    pub across_empty : (p : ℕ) (x : Symbol) (r : Pair) → HoldsWithin 0 0 no_string r → FirstsAcross s t p x r
    across_empty p x r z =
        record {
          is = λ gr γ e i j at. by_empty s t k kind (λ (u : Exp). HoldsWithin (4 * t.nodes) (6 * t.nodes) (firsts_across (tags_of gr) u i j p (next_of x)) r) b
              (wider (4 * t.nodes) (6 * t.nodes) (omega arith) (omega arith) z) e at;
        }

  module _ (only : Spot) (part : PartOf t only) (b : k ≡ 5) where
    pub through_star : (f unit turns shut r : Pair) → FirstsThrough s only f → HoldsWithin 0 0 (one_string []) unit → GoesRoundAs f unit turns →
        ClosedAs t.bracket turns shut → OpenedAs t.bracket shut r → FirstsThrough s t r
    through_star f unit turns shut r h u tu cl op =
        record {
          is = λ e i j at. by_star s t k kind (λ (u : Exp). HoldsWithin (2 * t.nodes) (2 * t.nodes) (firsts_through u i) r) b
              (λ o y.
              let n = only.nodes in
              let x = h.is o (suc i) j (part_at s t only part o y i j at.bracket_is at.atom_is) in
              let v = tu.is (firsts_through o (suc i)) (one_string []) (2 * n) (2 * n) 0 0 (2 * n) x u (omega arith) (omega arith) (omega (arith, part.nodes_are, spot.few)) in
              let w = cl.is i at.bracket_is _ 0 (2 * n) v (omega arith) (omega (arith, part.nodes_are, spot.few)) in
              let z = op.is i at.bracket_is _ (0 + 1) (2 * n + 1) w (omega arith) (omega (arith, part.nodes_are, spot.few)) in
              wider (2 * t.nodes) (2 * t.nodes) (omega (arith, spot.any)) (omega (arith, spot.any, part.nodes_are)) z)
              e at;
        }

    pub into_star : (x : Symbol) (f g turns r : Pair) → FirstsThrough s only f → FirstsInto s only x g → GoesRoundAs f g turns → OpenedAs t.bracket turns r → FirstsInto s t x r
    into_star x f g turns r h h' tu op =
        record {
          is = λ gr γ e i j at. by_star s t k kind (λ (u : Exp). HoldsWithin (2 * t.nodes) (4 * t.nodes) (firsts_into (tags_of gr) u i (next_of x)) r) b
              (λ o y.
              let n = only.nodes in
              let here = part_at s t only part o y i j at.bracket_is at.atom_is in
              let v = tu.is _ _ (2 * n) (2 * n) (2 * n) (4 * n) (4 * n) (h.is o (suc i) j here) (h'.is gr γ o (suc i) j here) (omega arith) (omega arith)
              (omega (arith, part.nodes_are, spot.few)) in
              let z = op.is i at.bracket_is _ (2 * n) (4 * n) v (omega (arith, part.nodes_are, spot.few)) (omega (arith, part.nodes_are, spot.few)) in
              wider (2 * t.nodes) (4 * t.nodes) (omega (arith, spot.any, part.nodes_are)) (omega (arith, spot.any, part.nodes_are)) z)
              e at;
        }

    pub out_star : (p : ℕ) (f h unit turns joint r : Pair) → FirstsOutOf s only p f → FirstsThrough s only h → HoldsWithin 0 0 (one_string []) unit → GoesRoundAs h unit turns →
        BothAs f turns joint → ClosedAs t.bracket joint r → FirstsOutOf s t p r
    out_star p f h unit turns joint r x x' u tu bo cl =
        record {
          is = λ e i j at. by_star s t k kind (λ (u : Exp). HoldsWithin (2 * t.nodes) (4 * t.nodes) (firsts_out_of u i j p) r) b
              (λ o y.
              let n = only.nodes in
              let here = part_at s t only part o y i j at.bracket_is at.atom_is in
              let v = tu.is (firsts_through o (suc i)) (one_string []) (2 * n) (2 * n) 0 0 (2 * n) (x'.is o (suc i) j here) u (omega arith) (omega arith)
              (omega (arith, part.nodes_are, spot.few)) in
              let w = bo.is (firsts_out_of o (suc i) j p) _ (2 * n) (4 * n) 0 (2 * n) (4 * n) (x.is o (suc i) j here) v (omega arith) (omega arith) (omega arith)
              (omega (arith, part.nodes_are, spot.few)) in
              let z = cl.is i at.bracket_is _ (2 * n + 0) (4 * n) w (omega (arith, part.nodes_are, spot.few)) (omega (arith, part.nodes_are, spot.few)) in
              wider (2 * t.nodes) (4 * t.nodes) (omega (arith, spot.any, part.nodes_are)) (omega (arith, spot.any, part.nodes_are)) z)
              e at;
        }

    pub across_star : (p : ℕ) (x : Symbol) (f o h n turns joint r : Pair) → FirstsAcross s only p x f → FirstsOutOf s only p o → FirstsThrough s only h → FirstsInto s only x n →
        GoesRoundAs h n turns → BothAs o turns joint → EitherAs f joint r → FirstsAcross s t p x r
    across_star p x f o h n turns joint r hf ho hh hn tu bo ei =
        record {
          is = λ gr γ e i j at. by_star s t k kind (λ (u : Exp). HoldsWithin (4 * t.nodes) (6 * t.nodes) (firsts_across (tags_of gr) u i j p (next_of x)) r) b
              (λ d y.
              let m = only.nodes in
              let here = part_at s t only part d y i j at.bracket_is at.atom_is in
              let v = tu.is _ _ (2 * m) (2 * m) (2 * m) (4 * m) (4 * m) (hh.is d (suc i) j here) (hn.is gr γ d (suc i) j here) (omega arith) (omega arith)
              (omega (arith, part.nodes_are, spot.few)) in
              let w = bo.is (firsts_out_of d (suc i) j p) _ (2 * m) (4 * m) (2 * m) (4 * m) (6 * m) (ho.is d (suc i) j here) v (omega arith) (omega arith) (omega arith)
              (omega (arith, part.nodes_are, spot.few)) in
              let z = ei.is _ _ (4 * m) (6 * m) (omega arith) (hf.is gr γ d (suc i) j here) (wider (4 * m) (6 * m) (omega arith) (omega arith) w) in
              wider (4 * t.nodes) (6 * t.nodes) (omega (arith, part.nodes_are)) (omega (arith, part.nodes_are)) z)
              e at;
        }

  module _ (two : Parts) (parts : PartsOf s t two) where
    module _ (f g : Pair) (hf : FirstsThrough s two.first f) (hg : FirstsThrough s two.second g) where
      pub through_cat : k ≡ 3 → (joint shut r : Pair) → BothAs f g joint → ClosedAs t.bracket joint shut → OpenedAs t.bracket shut r → FirstsThrough s t r
      through_cat c joint shut r bo cl op =
          record {
            is = λ e i j at. by_cat s t k kind (λ (u : Exp). HoldsWithin (2 * t.nodes) (2 * t.nodes) (firsts_through u i) r) c
                (λ l m x y.
                let a = two.first.nodes in
                let b = two.second.nodes in
                let n = 2 * a + 2 * b in
                let v = bo.is _ _ (2 * a) (2 * a) (2 * b) (2 * b) n
                (hf.is l (suc i) j (parts.first_at l x i j at.bracket_is at.atom_is))
                (hg.is m (suc i + nodes l) (j + atoms l) (parts.second_at l m x y i j at.bracket_is at.atom_is))
                (omega arith) (omega arith) (omega arith) (omega (arith, parts.both, spot.few)) in
                let w = cl.is i at.bracket_is _ n n v (omega (arith, parts.both, spot.few)) (omega (arith, parts.both, spot.few)) in
                let z = op.is i at.bracket_is _ (n + 1) (n + 1) w (omega (arith, parts.both, spot.few)) (omega (arith, parts.both, spot.few)) in
                wider (2 * t.nodes) (2 * t.nodes) (omega (arith, parts.both)) (omega (arith, parts.both)) z)
                e at;
          }

      pub through_alt : 3 ≤ k → k ≤ 4 → (k ≡ 3 → ⊥) → (any shut r : Pair) → EitherAs f g any → ClosedAs t.bracket any shut → OpenedAs t.bracket shut r → FirstsThrough s t r
      through_alt low high c any shut r ei cl op =
          record {
            is = λ e i j at. by_alt s t k kind (λ (u : Exp). HoldsWithin (2 * t.nodes) (2 * t.nodes) (firsts_through u i) r) low high c
                (λ l m x y.
                let a = two.first.nodes in
                let b = two.second.nodes in
                let n = 2 * a + 2 * b in
                let v = ei.is _ _ n n (omega arith)
                (wider n n (omega arith) (omega arith) (hf.is l (suc i) j (parts.first_at l x i j at.bracket_is at.atom_is)))
                (wider n n (omega arith) (omega arith) (hg.is m (suc i + nodes l) (j + atoms l) (parts.second_at l m x y i j at.bracket_is at.atom_is))) in
                let w = cl.is i at.bracket_is _ n n v (omega (arith, parts.both, spot.few)) (omega (arith, parts.both, spot.few)) in
                let z = op.is i at.bracket_is _ (n + 1) (n + 1) w (omega (arith, parts.both, spot.few)) (omega (arith, parts.both, spot.few)) in
                wider (2 * t.nodes) (2 * t.nodes) (omega (arith, parts.both)) (omega (arith, parts.both)) z)
                e at;
          }

    module _ (x : Symbol) (f g : Pair) (hf : FirstsInto s two.first x f) (hg : FirstsInto s two.second x g) where
      pub into_cat : k ≡ 3 → (h joint any r : Pair) → FirstsThrough s two.first h → BothAs h g joint → EitherAs f joint any → OpenedAs t.bracket any r → FirstsInto s t x r
      into_cat c h joint any r hh bo ei op =
          record {
            is = λ gr γ e i j at. by_cat s t k kind (λ (u : Exp). HoldsWithin (2 * t.nodes) (4 * t.nodes) (firsts_into (tags_of gr) u i (next_of x)) r) c
                (λ l m y z.
                let a = two.first.nodes in
                let b = two.second.nodes in
                let p = 2 * a + 2 * b in
                let q = 4 * a + 4 * b in
                let here = parts.first_at l y i j at.bracket_is at.atom_is in
                let there = parts.second_at l m y z i j at.bracket_is at.atom_is in
                let v = bo.is _ _ (2 * a) (2 * a) (2 * b) (4 * b) q (hh.is l (suc i) j here) (hg.is gr γ m (suc i + nodes l) (j + atoms l) there)
                (omega arith) (omega arith) (omega arith) (omega (arith, parts.both, spot.few)) in
                let w = ei.is _ _ p q (omega arith) (wider p q (omega arith) (omega arith) (hf.is gr γ l (suc i) j here)) v in
                let o = op.is i at.bracket_is _ p q w (omega (arith, parts.both, spot.few)) (omega (arith, parts.both, spot.few)) in
                wider (2 * t.nodes) (4 * t.nodes) (omega (arith, parts.both)) (omega (arith, parts.both)) o)
                e at;
          }

      pub into_alt : 3 ≤ k → k ≤ 4 → (k ≡ 3 → ⊥) → (any r : Pair) → EitherAs f g any → OpenedAs t.bracket any r → FirstsInto s t x r
      into_alt low high c any r ei op =
          record {
            is = λ gr γ e i j at. by_alt s t k kind (λ (u : Exp). HoldsWithin (2 * t.nodes) (4 * t.nodes) (firsts_into (tags_of gr) u i (next_of x)) r) low high c
                (λ l m y z.
                let a = two.first.nodes in
                let b = two.second.nodes in
                let p = 2 * a + 2 * b in
                let q = 4 * a + 4 * b in
                let w = ei.is _ _ p q (omega arith)
                (wider p q (omega arith) (omega arith) (hf.is gr γ l (suc i) j (parts.first_at l y i j at.bracket_is at.atom_is)))
                (wider p q (omega arith) (omega arith) (hg.is gr γ m (suc i + nodes l) (j + atoms l) (parts.second_at l m y z i j at.bracket_is at.atom_is))) in
                let o = op.is i at.bracket_is _ p q w (omega (arith, parts.both, spot.few)) (omega (arith, parts.both, spot.few)) in
                wider (2 * t.nodes) (4 * t.nodes) (omega (arith, parts.both)) (omega (arith, parts.both)) o)
                e at;
          }

    module _ (p : ℕ) (f g : Pair) (hf : FirstsOutOf s two.first p f) (hg : FirstsOutOf s two.second p g) where
      pub out_cat : k ≡ 3 → (h joint any r : Pair) → FirstsThrough s two.second h → BothAs f h joint → EitherAs joint g any → ClosedAs t.bracket any r → FirstsOutOf s t p r
      out_cat c h joint any r hh bo ei cl =
          record {
            is = λ e i j at. by_cat s t k kind (λ (u : Exp). HoldsWithin (2 * t.nodes) (4 * t.nodes) (firsts_out_of u i j p) r) c
                (λ l m y z.
                let a = two.first.nodes in
                let b = two.second.nodes in
                let n = 2 * a + 2 * b in
                let q = 4 * a + 4 * b in
                let here = parts.first_at l y i j at.bracket_is at.atom_is in
                let there = parts.second_at l m y z i j at.bracket_is at.atom_is in
                let v = bo.is _ _ (2 * a) (4 * a) (2 * b) (2 * b) q (hf.is l (suc i) j here) (hh.is m (suc i + nodes l) (j + atoms l) there)
                (omega arith) (omega arith) (omega arith) (omega (arith, parts.both, spot.few)) in
                let w = ei.is _ _ n q (omega arith) v (wider n q (omega arith) (omega arith) (hg.is m (suc i + nodes l) (j + atoms l) there)) in
                let o = cl.is i at.bracket_is _ n q w (omega (arith, parts.both, spot.few)) (omega (arith, parts.both, spot.few)) in
                wider (2 * t.nodes) (4 * t.nodes) (omega (arith, parts.both)) (omega (arith, parts.both)) o)
                e at;
          }

      pub out_alt : 3 ≤ k → k ≤ 4 → (k ≡ 3 → ⊥) → (any r : Pair) → EitherAs f g any → ClosedAs t.bracket any r → FirstsOutOf s t p r
      out_alt low high c any r ei cl =
          record {
            is = λ e i j at. by_alt s t k kind (λ (u : Exp). HoldsWithin (2 * t.nodes) (4 * t.nodes) (firsts_out_of u i j p) r) low high c
                (λ l m y z.
                let a = two.first.nodes in
                let b = two.second.nodes in
                let n = 2 * a + 2 * b in
                let q = 4 * a + 4 * b in
                let w = ei.is _ _ n q (omega arith)
                (wider n q (omega arith) (omega arith) (hf.is l (suc i) j (parts.first_at l y i j at.bracket_is at.atom_is)))
                (wider n q (omega arith) (omega arith) (hg.is m (suc i + nodes l) (j + atoms l) (parts.second_at l m y z i j at.bracket_is at.atom_is))) in
                let o = cl.is i at.bracket_is _ n q w (omega (arith, parts.both, spot.few)) (omega (arith, parts.both, spot.few)) in
                wider (2 * t.nodes) (4 * t.nodes) (omega (arith, parts.both)) (omega (arith, parts.both)) o)
                e at;
          }

    module _ (p : ℕ) (x : Symbol) (f g : Pair) (hf : FirstsAcross s two.first p x f) (hg : FirstsAcross s two.second p x g) where
      pub across_cat : k ≡ 3 → (o n joint any r : Pair) → FirstsOutOf s two.first p o → FirstsInto s two.second x n → BothAs o n joint → EitherAs f joint any →
          EitherAs any g r → FirstsAcross s t p x r
      across_cat c o n joint any r ho hn bo ei ei' =
          record {
            is = λ gr γ e i j at. by_cat s t k kind (λ (u : Exp). HoldsWithin (4 * t.nodes) (6 * t.nodes) (firsts_across (tags_of gr) u i j p (next_of x)) r) c
                (λ l m y z.
                let a = two.first.nodes in
                let b = two.second.nodes in
                let u = 4 * a + 4 * b in
                let q = 6 * a + 6 * b in
                let here = parts.first_at l y i j at.bracket_is at.atom_is in
                let there = parts.second_at l m y z i j at.bracket_is at.atom_is in
                let v = bo.is _ _ (2 * a) (4 * a) (2 * b) (4 * b) q (ho.is l (suc i) j here) (hn.is gr γ m (suc i + nodes l) (j + atoms l) there)
                (omega arith) (omega arith) (omega arith) (omega (arith, parts.both, spot.few)) in
                let w = ei.is _ _ u q (omega arith) (wider u q (omega arith) (omega arith) (hf.is gr γ l (suc i) j here)) (wider u q (omega arith) (omega arith) v) in
                let d = ei'.is _ _ u q (omega arith) w (wider u q (omega arith) (omega arith) (hg.is gr γ m (suc i + nodes l) (j + atoms l) there)) in
                wider (4 * t.nodes) (6 * t.nodes) (omega (arith, parts.both)) (omega (arith, parts.both)) d)
                e at;
          }

      pub across_alt : 3 ≤ k → k ≤ 4 → (k ≡ 3 → ⊥) → (r : Pair) → EitherAs f g r → FirstsAcross s t p x r
      across_alt low high c r ei =
          record {
            is = λ gr γ e i j at. by_alt s t k kind (λ (u : Exp). HoldsWithin (4 * t.nodes) (6 * t.nodes) (firsts_across (tags_of gr) u i j p (next_of x)) r) low high c
                (λ l m y z.
                let a = two.first.nodes in
                let b = two.second.nodes in
                let u = 4 * a + 4 * b in
                let q = 6 * a + 6 * b in
                let w = ei.is _ _ u q (omega arith)
                (wider u q (omega arith) (omega arith) (hf.is gr γ l (suc i) j (parts.first_at l y i j at.bracket_is at.atom_is)))
                (wider u q (omega arith) (omega arith) (hg.is gr γ m (suc i + nodes l) (j + atoms l) (parts.second_at l m y z i j at.bracket_is at.atom_is))) in
                wider (4 * t.nodes) (6 * t.nodes) (omega (arith, parts.both)) (omega (arith, parts.both)) w)
                e at;
          }

  -- an atom
  module _ (b : k < 3) where
    module _ (x : Symbol) (n : ℕ) (argument : n ≡ argument_of s t.node) (can : Bool) (h : CanIs s k n x can) where
      kind_is : {i j : ℕ} (a : Atom) → At s t (atom a) i j → k ≡ kind_number a
      kind_is (nonterminal m) q = kind ∙ q.stands.0
      kind_is anychar q = kind ∙ q.stands.0

      argument_is : {i j : ℕ} (a : Atom) → At s t (atom a) i j → n ≡ argument_number a
      argument_is (nonterminal m) q = argument ∙ q.stands.1
      argument_is anychar q = argument ∙ q.stands.1

      pub into_leaf : (here r : Pair) → WhenIs can here → OpenedAs t.bracket here r → FirstsInto s t x r
      into_leaf here r w op =
          record {
            is = λ gr γ e i j at. by_leaf s t k kind (λ (u : Exp). HoldsWithin (2 * t.nodes) (4 * t.nodes) (firsts_into (tags_of gr) u i (next_of x)) r) b
                (λ a q.
                let v = w.is (can_be (tags_of gr) a (next_of x)) (h.is gr γ a (kind_is a q) (argument_is a q)) in
                let o = op.is i q.bracket_is _ 0 0 v (omega arith) (omega arith) in
                wider (2 * t.nodes) (4 * t.nodes) (omega (arith, spot.any)) (omega (arith, spot.any)) o)
                e at;
          }

    pub out_leaf : (p : ℕ) (hit : Bool) → ((j : ℕ) → t.atom ≡ j → hit ≡ eqb p j) → (here r : Pair) → WhenIs hit here → ClosedAs t.bracket here r → FirstsOutOf s t p r
    out_leaf p hit same here r w cl =
        record {
          is = λ e i j at. by_leaf s t k kind (λ (u : Exp). HoldsWithin (2 * t.nodes) (4 * t.nodes) (firsts_out_of u i j p) r) b
              (λ a q.
              let v = w.is (eqb p j) (same j q.atom_is) in
              let o = cl.is i q.bracket_is _ 0 0 v (omega arith) (omega arith) in
              wider (2 * t.nodes) (4 * t.nodes) (omega (arith, spot.any)) (omega (arith, spot.any)) o)
              e at;
        }

    pub across_leaf : (p : ℕ) (x : Symbol) (r : Pair) → HoldsWithin 0 0 no_string r → FirstsAcross s t p x r
    across_leaf p x r z =
        record {
          is = λ gr γ e i j at. by_leaf s t k kind (λ (u : Exp). HoldsWithin (4 * t.nodes) (6 * t.nodes) (firsts_across (tags_of gr) u i j p (next_of x)) r) b
              (λ a _. wider (4 * t.nodes) (6 * t.nodes) (omega arith) (omega arith) z) e at;
        }
