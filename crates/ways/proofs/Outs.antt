-- The walk from just after an atom to the end: each return from what the walks behind the node handed back.
-- Assumes nothing.
use mathlib.Core.Path.{◌≡◌, refl, sym, ◌∙◌, ap, subst}
use mathlib.Core.Bool.{Bool}
use Rattle.std.specs.Prelude.{Option as Past, Some, None}
use Rattle.std.proofs.lemmas.Option.{none-some}
use mathlib.Core.List.{List, [], ◌∷◌}
use mathlib.Core.Option.{Option, none, some}
use Prim.Native.Nat.{ℕ, suc, ◌+◌, ◌≤◌, ◌<◌}
use native.Mathlib.Omega.{arith}
use borrow.Author.Tests.{eq-eqb, ne_eqb}
use Rattle.expressions.specs.Expr.{Exp, nodes, atoms}
use Rattle.expressions.specs.Words.{Bracket, closing}
use Rattle.layout.specs.Records.{kind_of}
use Rattle.runs.specs.Options.{or_else, when_true}
use Rattle.runs.specs.Way.{joined, closed, through, out_of_lem}
use Rattle.ways.specs.declared.Spot.{Spot}
use Rattle.ways.specs.declared.Parts.{Parts}
use Rattle.ways.specs.Held.{LineIs, no_line, a_line, Bracketed}
use Rattle.trees.specs.Trees.{TreeAt}
use Rattle.ways.specs.Spot.{SpotIn, PartOf, PartsOf}
use Rattle.ways.specs.Walks.{Through, OutOf, IfJoined}
use Rattle.ways.proofs.Strings.{joined_assoc}
use Rattle.ways.proofs.Away.{or_none, out_away}
use Rattle.ways.proofs.Holds.{line_moved, kept_itself, kept_then, line_led, line_stops, line_closed}
use Rattle.ways.proofs.Spots.{by_leaf, by_empty, by_star, by_two, part_at}

abbrev last_bracket : ℕ → Option (List Bracket)
last_bracket i = some (closing i ∷ [])

closed_by : (i : ℕ) (o v q : Option (List Bracket)) → v ≡ q → joined (joined o v) (last_bracket i) ≡ joined o (closed i q)
closed_by i o v q e = joined_assoc o v (last_bracket i) ∙ ap (λ (u : Option (List Bracket)). joined o (closed i u)) e

-- a concatenation goes on through its second part, a union does not
module _ (s : List ℕ) (k : ℕ) (t : Spot) (n : ℕ) (b : List ℕ) where
  pub joined_through : k ≡ 3 → (r : Past ℕ) (d : List ℕ) → Through s t n b r d → IfJoined s k t n b r d
  joined_through e r d h = record { few = h.few; kept = h.kept; through_is = λ _. h; same = λ n. absurd (n e) }

  pub not_joined : (k ≡ 3 → ⊥) → IfJoined s k t n b (Some n) b
  not_joined f = record { few = (omega arith, omega arith); kept = kept_itself n b; through_is = λ e. absurd (f e); same = λ _. (refl, refl) }

module _ (s : List ℕ) (t : Spot) (k : ℕ) (kind : k ≡ kind_of s t.node) (spot : SpotIn s t) (p n : ℕ) (b : List ℕ) where
  pub out_here : k < 3 → p ≡ t.atom → (r : ℕ) (d : List ℕ) → Bracketed closing t.bracket n b r d → OutOf s t p n b (Some r) d
  out_here low e r d cl =
      record {
        few = (omega (arith, cl.one_more), omega (arith, spot.any, cl.one_more));
        kept = cl.kept;
        is = λ f i j at α h. by_leaf s t k kind (λ (u : Exp). LineIs (joined (some α) (out_of_lem u i j p)) (Some r) d) low
            (λ a _. subst (λ (z : Bool). LineIs (joined (some α) (closed i (when_true z []))) (Some r) d) (sym (eq-eqb p j (e ∙ at.atom_is))) (a_line (cl.is i at.bracket_is α h))) f at;
      }

  pub out_elsewhere : k < 3 → (p ≡ t.atom → ⊥) → OutOf s t p n b None b
  out_elsewhere low f =
      record {
        few = tt;
        kept = kept_itself n b;
        is = λ g i j at α h. by_leaf s t k kind (λ (u : Exp). LineIs (joined (some α) (out_of_lem u i j p)) None b) low
            (λ a _. subst (λ (z : Bool). LineIs (joined (some α) (closed i (when_true z []))) None b) (sym (ne_eqb p j (λ e. f (e ∙ sym at.atom_is)))) no_line) g at;
      }

  pub out_empty : 5 < k → OutOf s t p n b None b
  out_empty high =
      record { few = tt; kept = kept_itself n b; is = λ f i j at α h. by_empty s t k kind (λ (u : Exp). LineIs (joined (some α) (out_of_lem u i j p)) None b) high no_line f at }

  module _ (five : k ≡ 5) (only : Spot) (part : PartOf t only) where
    pub star_none : (d : List ℕ) → OutOf s only p n b None d → OutOf s t p n b None d
    star_none d inner =
        record {
          few = tt;
          kept = inner.kept;
          is = λ e i j at α h. by_star s t k kind (λ (u : Exp). LineIs (joined (some α) (out_of_lem u i j p)) None d) five
              (λ f y. line_moved (joined_assoc (some α) (out_of_lem f (suc i) j p) (last_bracket i))
              (line_stops (last_bracket i) (inner.is f _ _ (part_at s t only part f y i j at.bracket_is at.atom_is) α h))) e at;
        }

    pub out_star : (a r : ℕ) (d d' : List ℕ) → OutOf s only p n b (Some a) d → Bracketed closing t.bracket a d r d' → OutOf s t p n b (Some r) d'
    out_star a r d d' inner cl =
        record {
          few = (omega (arith, inner.few.0, cl.one_more), omega (arith, spot.any, inner.few.1, cl.one_more, part.nodes_are));
          kept = kept_then inner.few.0 inner.kept cl.kept;
          is = λ e i j at α h. by_star s t k kind (λ (u : Exp). LineIs (joined (some α) (out_of_lem u i j p)) (Some r) d') five
              (λ f y. line_moved (joined_assoc (some α) (out_of_lem f (suc i) j p) (last_bracket i))
              (line_closed cl at.bracket_is (inner.is f _ _ (part_at s t only part f y i j at.bracket_is at.atom_is) α h))) e at;
        }

  module _ (low : 3 ≤ k) (high : k ≤ 4) (two : Parts) (parts : PartsOf s t two) where
    -- the atom is in the first part: none is found in the second
    module _ (before : p < two.second.atom) where
      none_second : (l m : Exp) (i j : ℕ) → TreeAt s (suc t.node) l → TreeAt s (suc t.node + nodes l) m → t.bracket ≡ i → t.atom ≡ j → out_of_lem m (suc i + nodes l) (j + atoms l) p ≡ none
      none_second l m i j y z f q =
          let there_at = parts.second_at l m y z i j f q in
          out_away m (suc i + nodes l) (j + atoms l) p (λ g _. omega (arith, g, before, there_at.atom_is))

      pub first_none : (d : List ℕ) → OutOf s two.first p n b None d → OutOf s t p n b None d
      first_none d first =
          record {
            few = tt;
            kept = first.kept;
            is = λ e i j at α h. by_two s t k kind (λ (u : Exp). LineIs (joined (some α) (out_of_lem u i j p)) None d) low high
                (λ c l m y z.
                let u = out_of_lem l (suc i) j p in
                let v = through m (suc i + nodes l) in
                let q = out_of_lem m (suc i + nodes l) (j + atoms l) p in
                let none_there = none_second l m i j y z at.bracket_is at.atom_is in
                let out = first.is l _ _ (parts.first_at l y i j at.bracket_is at.atom_is) α h in
                line_moved (closed_by i (some α) (joined u v) (or_else (joined u v) q) (sym (ap (or_else (joined u v)) none_there ∙ or_none (joined u v))))
                (line_stops (last_bracket i) (line_moved (joined_assoc (some α) u v) (line_stops v out))))
                (λ c l m y z.
                let u = out_of_lem l (suc i) j p in
                let q = out_of_lem m (suc i + nodes l) (j + atoms l) p in
                let none_there = none_second l m i j y z at.bracket_is at.atom_is in
                let out = first.is l _ _ (parts.first_at l y i j at.bracket_is at.atom_is) α h in
                line_moved (closed_by i (some α) u (or_else u q) (sym (ap (or_else u) none_there ∙ or_none u))) (line_stops (last_bracket i) out))
                e at;
          }

      module _ (a : ℕ) (d : List ℕ) (first : OutOf s two.first p n b (Some a) d) where
        pub joined_none : (d' : List ℕ) → IfJoined s k two.second a d None d' → OutOf s t p n b None d'
        joined_none d' on =
            record {
              few = tt;
              kept = kept_then first.few.0 first.kept on.kept;
              is = λ e i j at α h. by_two s t k kind (λ (u : Exp). LineIs (joined (some α) (out_of_lem u i j p)) None d') low high
                  (λ c l m y z.
                  let u = out_of_lem l (suc i) j p in
                  let v = through m (suc i + nodes l) in
                  let q = out_of_lem m (suc i + nodes l) (j + atoms l) p in
                  let none_there = none_second l m i j y z at.bracket_is at.atom_is in
                  let out = first.is l _ _ (parts.first_at l y i j at.bracket_is at.atom_is) α h in
                  let over = line_moved (joined_assoc (some α) u v) (line_led v out ((on.through_is c).is m _ _ (parts.second_at l m y z i j at.bracket_is at.atom_is))) in
                  line_moved (closed_by i (some α) (joined u v) (or_else (joined u v) q) (sym (ap (or_else (joined u v)) none_there ∙ or_none (joined u v)))) (line_stops (last_bracket i) over))
                  (λ c l m y z. absurd (none-some a (on.same c).0))
                  e at;
            }

        pub out_first : (m r : ℕ) (d' d'' : List ℕ) → IfJoined s k two.second a d (Some m) d' → Bracketed closing t.bracket m d' r d'' → OutOf s t p n b (Some r) d''
        out_first o r d' d'' on cl =
            record {
              few = (omega (arith, first.few.0, on.few.0, cl.one_more), omega (arith, parts.both, first.few.1, on.few.1, cl.one_more));
              kept = kept_then first.few.0 first.kept (kept_then on.few.0 on.kept cl.kept);
              is = λ e i j at α h. by_two s t k kind (λ (u : Exp). LineIs (joined (some α) (out_of_lem u i j p)) (Some r) d'') low high
                  (λ c l m y z.
                  let u = out_of_lem l (suc i) j p in
                  let v = through m (suc i + nodes l) in
                  let q = out_of_lem m (suc i + nodes l) (j + atoms l) p in
                  let none_there = none_second l m i j y z at.bracket_is at.atom_is in
                  let out = first.is l _ _ (parts.first_at l y i j at.bracket_is at.atom_is) α h in
                  let over = line_moved (joined_assoc (some α) u v) (line_led v out ((on.through_is c).is m _ _ (parts.second_at l m y z i j at.bracket_is at.atom_is))) in
                  line_moved (closed_by i (some α) (joined u v) (or_else (joined u v) q) (sym (ap (or_else (joined u v)) none_there ∙ or_none (joined u v)))) (line_closed cl at.bracket_is over))
                  (λ c l m y z.
                  let u = out_of_lem l (suc i) j p in
                  let q = out_of_lem m (suc i + nodes l) (j + atoms l) p in
                  let none_there = none_second l m i j y z at.bracket_is at.atom_is in
                  let out = first.is l _ _ (parts.first_at l y i j at.bracket_is at.atom_is) α h in
                  let over = subst (λ (x : List ℕ). LineIs (joined (some α) u) (Some o) x) (sym (on.same c).1) (subst (λ (x : Past ℕ). LineIs (joined (some α) u) x d) (sym (on.same c).0) out) in
                  line_moved (closed_by i (some α) u (or_else u q) (sym (ap (or_else u) none_there ∙ or_none u))) (line_closed cl at.bracket_is over))
                  e at;
            }

    -- it is not: it is looked for in the second
    module _ (past : two.second.atom ≤ p) where
      in_second : (l m : Exp) (i j : ℕ) → TreeAt s (suc t.node) l → TreeAt s (suc t.node + nodes l) m → t.bracket ≡ i → t.atom ≡ j → out_of_lem l (suc i) j p ≡ none
      in_second l m i j y z f q =
          let there_at = parts.second_at l m y z i j f q in
          out_away l (suc i) j p (λ _ g. omega (arith, g, past, there_at.atom_is))

      pub second_none : (d : List ℕ) → OutOf s two.second p n b None d → OutOf s t p n b None d
      second_none d second =
          record {
            few = tt;
            kept = second.kept;
            is = λ e i j at α h. by_two s t k kind (λ (u : Exp). LineIs (joined (some α) (out_of_lem u i j p)) None d) low high
                (λ c l m y z.
                let v = through m (suc i + nodes l) in
                let q = out_of_lem m (suc i + nodes l) (j + atoms l) p in
                let none_there = in_second l m i j y z at.bracket_is at.atom_is in
                line_moved (closed_by i (some α) q (or_else (joined (out_of_lem l (suc i) j p) v) q) (sym (ap (λ (f : Option (List Bracket)). or_else (joined f v) q) none_there)))
                (line_stops (last_bracket i) (second.is m _ _ (parts.second_at l m y z i j at.bracket_is at.atom_is) α h)))
                (λ c l m y z.
                let q = out_of_lem m (suc i + nodes l) (j + atoms l) p in
                let none_there = in_second l m i j y z at.bracket_is at.atom_is in
                line_moved (closed_by i (some α) q (or_else (out_of_lem l (suc i) j p) q) (sym (ap (λ (f : Option (List Bracket)). or_else f q) none_there)))
                (line_stops (last_bracket i) (second.is m _ _ (parts.second_at l m y z i j at.bracket_is at.atom_is) α h)))
                e at;
          }

      pub out_second : (o r : ℕ) (d d' : List ℕ) → OutOf s two.second p n b (Some o) d → Bracketed closing t.bracket o d r d' → OutOf s t p n b (Some r) d'
      out_second o r d d' second cl =
          record {
            few = (omega (arith, second.few.0, cl.one_more), omega (arith, parts.both, second.few.1, cl.one_more));
            kept = kept_then second.few.0 second.kept cl.kept;
            is = λ e i j at α h. by_two s t k kind (λ (u : Exp). LineIs (joined (some α) (out_of_lem u i j p)) (Some r) d') low high
                (λ c l m y z.
                let v = through m (suc i + nodes l) in
                let q = out_of_lem m (suc i + nodes l) (j + atoms l) p in
                let none_there = in_second l m i j y z at.bracket_is at.atom_is in
                line_moved (closed_by i (some α) q (or_else (joined (out_of_lem l (suc i) j p) v) q) (sym (ap (λ (f : Option (List Bracket)). or_else (joined f v) q) none_there)))
                (line_closed cl at.bracket_is (second.is m _ _ (parts.second_at l m y z i j at.bracket_is at.atom_is) α h)))
                (λ c l m y z.
                let q = out_of_lem m (suc i + nodes l) (j + atoms l) p in
                let none_there = in_second l m i j y z at.bracket_is at.atom_is in
                line_moved (closed_by i (some α) q (or_else (out_of_lem l (suc i) j p) q) (sym (ap (λ (f : Option (List Bracket)). or_else f q) none_there)))
                (line_closed cl at.bracket_is (second.is m _ _ (parts.second_at l m y z i j at.bracket_is at.atom_is) α h)))
                e at;
          }
