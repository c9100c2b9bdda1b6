-- The walk from start to end: each return from what the walks behind the node handed back.
-- Assumes nothing.
use mathlib.Core.Path.{◌≡◌, ◌∙◌, ap}
use Rattle.std.specs.Prelude.{Option as Past, Some, None}
use mathlib.Core.List.{List, [], ◌∷◌, ◌++◌}
use mathlib.Core.Option.{Option, some}
use Prim.Native.Nat.{ℕ, suc, ◌+◌, ◌≤◌, ◌<◌}
use native.Mathlib.Omega.{arith}
use Rattle.expressions.specs.Expr.{Exp, nodes}
use Rattle.expressions.specs.Words.{Bracket, opening, closing}
use Rattle.layout.specs.Records.{kind_of}
use Rattle.runs.specs.Options.{or_else}
use Rattle.runs.specs.Way.{joined, enclosed, through}
use Rattle.ways.specs.declared.Spot.{Spot}
use Rattle.ways.specs.declared.Parts.{Parts}
use Rattle.trees.specs.Trees.{TreeAt}
use Rattle.ways.specs.Held.{HoldsString, LineIs, no_line, a_line, Bracketed}
use Rattle.ways.specs.Spot.{SpotIn, PartsOf}
use Rattle.ways.specs.Walks.{Through}
use Rattle.ways.proofs.Strings.{joined_assoc, joined_first, joined_second, enclosed_is}
use Rattle.ways.proofs.Holds.{line_moved, kept_itself, kept_then, string_again, is_there, is_missing, line_led, line_stops, line_closed}
use Rattle.ways.proofs.Spots.{by_leaf, by_bare, by_cat, by_alt}

abbrev first_bracket : ℕ → Option (List Bracket)
first_bracket i = some (opening i ∷ [])

abbrev last_bracket : ℕ → Option (List Bracket)
last_bracket i = some (closing i ∷ [])

-- a node's own brackets around what is inside
enclosed_as : (i : ℕ) (α : List Bracket) (v w : Option (List Bracket)) → joined (some (α ++ opening i ∷ [])) v ≡ joined (some (α ++ opening i ∷ [])) w →
    joined (joined (some (α ++ opening i ∷ [])) v) (last_bracket i) ≡ joined (some α) (enclosed i w)
enclosed_as i α v w e = ap (λ (z : Option (List Bracket)). joined z (last_bracket i)) e ∙ enclosed_is i (some α) w

module _ (s : List ℕ) (t : Spot) (k : ℕ) (kind : k ≡ kind_of s t.node) (n : ℕ) (b : List ℕ) where
  pub through_leaf : k < 3 → Through s t n b None b
  through_leaf low =
      record { few = tt; kept = kept_itself n b; is = λ e i j a α h. by_leaf s t k kind (λ (u : Exp). LineIs (joined (some α) (through u i)) None b) low (λ _ _. no_line) e a }

  module _ (inside : ℕ) (b' : List ℕ) (op : Bracketed opening t.bracket n b inside b') where
    pub through_star : 4 < k → SpotIn s t → (r : ℕ) (d : List ℕ) → Bracketed closing t.bracket inside b' r d → Through s t n b (Some r) d
    through_star high u r d cl =
        record {
          few = (omega (arith, op.one_more, cl.one_more), omega (arith, u.any, op.one_more, cl.one_more));
          kept = kept_then (omega (arith, op.one_more)) op.kept cl.kept;
          is = λ e i j a α h.
              let own = line_moved (joined_assoc (some α) (first_bracket i) (last_bracket i)) (a_line (cl.is i a.bracket_is _ (op.is i a.bracket_is α h))) in
              by_bare s t k kind (λ (u : Exp). LineIs (joined (some α) (through u i)) (Some r) d) high (λ _. own) own e a;
        }

    module _ (two : Parts) (parts : PartsOf s t two) where
      module _ (c : k ≡ 3) where
        pub cat_first_none : (d : List ℕ) → Through s two.first inside b' None d → Through s t n b None d
        cat_first_none d first =
            record {
              few = tt;
              kept = kept_then (omega (arith, op.one_more)) op.kept first.kept;
              is = λ e i j at α h. by_cat s t k kind (λ (u : Exp). LineIs (joined (some α) (through u i)) None d) c
                  (λ l m x y.
                  let p = through l (suc i) in
                  let q = through m (suc i + nodes l) in
                  line_moved (enclosed_is i (some α) (joined p q))
                  (line_stops (last_bracket i) (line_moved (joined_assoc (some (α ++ opening i ∷ [])) p q)
                  (line_stops q (first.is l _ _ (parts.first_at l x i j at.bracket_is at.atom_is) _ (op.is i at.bracket_is α h))))))
                  e at;
            }

        module _ (a : ℕ) (d : List ℕ) (first : Through s two.first inside b' (Some a) d) where
          over : (r : Past ℕ) (d' : List ℕ) → Through s two.second a d r d' → (l m : Exp) (i j : ℕ) → TreeAt s (suc t.node) l → TreeAt s (suc t.node + nodes l) m → t.bracket ≡ i → t.atom ≡ j →
              (α : List Bracket) → HoldsString α n b → LineIs (joined (some (α ++ opening i ∷ [])) (joined (through l (suc i)) (through m (suc i + nodes l)))) r d'
          over r d' second l m i j x y f g α h =
              line_moved (joined_assoc (some (α ++ opening i ∷ [])) (through l (suc i)) (through m (suc i + nodes l)))
              (line_led (through m (suc i + nodes l)) (first.is l _ _ (parts.first_at l x i j f g) _ (op.is i f α h)) (second.is m _ _ (parts.second_at l m x y i j f g)))

          pub cat_second_none : (d' : List ℕ) → Through s two.second a d None d' → Through s t n b None d'
          cat_second_none d' second =
              record {
                few = tt;
                kept = kept_then (omega (arith, op.one_more)) op.kept (kept_then first.few.0 first.kept second.kept);
                is = λ e i j at α h. by_cat s t k kind (λ (u : Exp). LineIs (joined (some α) (through u i)) None d') c
                    (λ l m x y. line_moved (enclosed_is i (some α) _) (line_stops (last_bracket i) (over None d' second l m i j x y at.bracket_is at.atom_is α h)))
                    e at;
              }

          pub through_cat : (m r : ℕ) (d' d'' : List ℕ) → Through s two.second a d (Some m) d' → Bracketed closing t.bracket m d' r d'' → Through s t n b (Some r) d''
          through_cat m r d' d'' second cl =
              record {
                few = (omega (arith, op.one_more, first.few.0, second.few.0, cl.one_more), omega (arith, parts.both, op.one_more, first.few.1, second.few.1, cl.one_more));
                kept = kept_then (omega (arith, op.one_more)) op.kept (kept_then first.few.0 first.kept (kept_then second.few.0 second.kept cl.kept));
                is = λ e i j at α h. by_cat s t k kind (λ (u : Exp). LineIs (joined (some α) (through u i)) (Some r) d'') c
                    (λ l m' x y. line_moved (enclosed_is i (some α) _) (line_closed cl at.bracket_is (over (Some m) d' second l m' i j x y at.bracket_is at.atom_is α h)))
                    e at;
              }

      module _ (low : 3 ≤ k) (high : k ≤ 4) (not_cat : k ≡ 3 → ⊥) where
        pub through_first : (a r : ℕ) (d d' : List ℕ) → Through s two.first inside b' (Some a) d → Bracketed closing t.bracket a d r d' → Through s t n b (Some r) d'
        through_first a r d d' first cl =
            record {
              few = (omega (arith, op.one_more, first.few.0, cl.one_more), omega (arith, parts.both, op.one_more, first.few.1, cl.one_more));
              kept = kept_then (omega (arith, op.one_more)) op.kept (kept_then first.few.0 first.kept cl.kept);
              is = λ e i j at α h. by_alt s t k kind (λ (u : Exp). LineIs (joined (some α) (through u i)) (Some r) d') low high not_cat
                  (λ l m x y.
                  let p = through l (suc i) in
                  let q = through m (suc i + nodes l) in
                  let found = first.is l _ _ (parts.first_at l x i j at.bracket_is at.atom_is) _ (op.is i at.bracket_is α h) in
                  line_moved (enclosed_as i α p (or_else p q) (joined_first (some (α ++ opening i ∷ [])) p q (is_there found))) (line_closed cl at.bracket_is found))
                  e at;
            }

        module _ (d : List ℕ) (first : Through s two.first inside b' None d) where
          other : (r : Past ℕ) (d' : List ℕ) → Through s two.second inside d r d' → (l m : Exp) (i j : ℕ) → TreeAt s (suc t.node) l → TreeAt s (suc t.node + nodes l) m → t.bracket ≡ i → t.atom ≡ j →
              (α : List Bracket) → HoldsString α n b → LineIs (joined (some (α ++ opening i ∷ [])) (or_else (through l (suc i)) (through m (suc i + nodes l)))) r d'
          other r d' second l m i j x y f g α h =
              let given = op.is i f α h in
              line_moved
              (joined_second (some (α ++ opening i ∷ [])) (through l (suc i)) (through m (suc i + nodes l)) (is_missing (first.is l _ _ (parts.first_at l x i j f g) _ given)))
              (second.is m _ _ (parts.second_at l m x y i j f g) _ (string_again first.kept given))

          pub through_neither : (d' : List ℕ) → Through s two.second inside d None d' → Through s t n b None d'
          through_neither d' second =
              record {
                few = tt;
                kept = kept_then (omega (arith, op.one_more)) op.kept (kept_then (omega arith) first.kept second.kept);
                is = λ e i j at α h. by_alt s t k kind (λ (u : Exp). LineIs (joined (some α) (through u i)) None d') low high not_cat
                    (λ l m x y. line_moved (enclosed_is i (some α) _) (line_stops (last_bracket i) (other None d' second l m i j x y at.bracket_is at.atom_is α h)))
                    e at;
              }

          pub through_second : (m r : ℕ) (d' d'' : List ℕ) → Through s two.second inside d (Some m) d' → Bracketed closing t.bracket m d' r d'' → Through s t n b (Some r) d''
          through_second m r d' d'' second cl =
              record {
                few = (omega (arith, op.one_more, second.few.0, cl.one_more), omega (arith, parts.both, op.one_more, second.few.1, cl.one_more));
                kept = kept_then (omega (arith, op.one_more)) op.kept (kept_then (omega arith) first.kept (kept_then second.few.0 second.kept cl.kept));
                is = λ e i j at α h. by_alt s t k kind (λ (u : Exp). LineIs (joined (some α) (through u i)) (Some r) d'') low high not_cat
                    (λ l m' x y. line_moved (enclosed_is i (some α) _) (line_closed cl at.bracket_is (other (Some m) d' second l m' i j x y at.bracket_is at.atom_is α h)))
                    e at;
              }
