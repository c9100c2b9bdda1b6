-- The walk from just after an atom to another: each return from what the walks behind the node handed back.
-- Assumes nothing.
use mathlib.Core.Path.{◌≡◌, sym, ◌∙◌, ap}
use Rattle.std.specs.Prelude.{Option as Past, Some, None}
use mathlib.Core.List.{List}
use mathlib.Core.Option.{Option, none, some}
use Prim.Native.Nat.{ℕ, suc, ◌+◌, ◌*◌, ◌≤◌, ◌<◌}
use native.Mathlib.Omega.{arith}
use Rattle.expressions.specs.Expr.{Exp, cat, star, nodes, atoms}
use Rattle.expressions.specs.Grammar.{Production, tags_of}
use Rattle.layout.specs.Records.{kind_of}
use Rattle.runs.specs.Options.{or_else}
use Rattle.expressions.specs.Words.{Bracket}
use Rattle.runs.specs.Way.{Way as Found, joined, led, into, out_of_lem, across}
use Rattle.trees.specs.declared.Symbol.{Symbol}
use Rattle.trees.specs.Symbol.{next_of}
use Rattle.trees.specs.Trees.{TreeAt}
use Rattle.trees.specs.GrammarAt.{GrammarIs}
use Rattle.ways.specs.declared.Way.{Way}
use Rattle.ways.specs.declared.Spot.{Spot}
use Rattle.ways.specs.declared.Parts.{Parts}
use Rattle.ways.specs.Held.{HoldsString, WayIs, no_way}
use Rattle.ways.specs.Spot.{SpotIn, PartOf, PartsOf}
use Rattle.ways.specs.Walks.{Into, OutOf, Across}
use Rattle.ways.proofs.Away.{or_none, Away, out_away, across_away}
use Rattle.ways.proofs.Strings.{led_assoc, led_first, led_second}
use Rattle.ways.proofs.Holds.{way_moved, kept_itself, kept_then, string_again, way_there, way_missing, way_led, way_stops, longer_more}
use Rattle.ways.proofs.Spots.{by_leaf, by_empty, by_star, by_two, by_cat, by_alt, part_at}

module _ (s : List ℕ) (t : Spot) (k : ℕ) (kind : k ≡ kind_of s t.node) (p : ℕ) (x : Symbol) (n : ℕ) (b : List ℕ) where
  pub across_leaf : k < 3 → Across s t p x n b None b
  across_leaf low =
      record { few = tt; kept = kept_itself n b; is = λ g γ e i j at α h. by_leaf s t k kind (λ (u : Exp). WayIs (led (some α) (across (tags_of g) u i j p (next_of x))) None b) low (λ _ _. no_way) e at }

  pub across_empty : 5 < k → Across s t p x n b None b
  across_empty high =
      record { few = tt; kept = kept_itself n b; is = λ g γ e i j at α h. by_empty s t k kind (λ (u : Exp). WayIs (led (some α) (across (tags_of g) u i j p (next_of x))) None b) high no_way e at }

  -- a star: within one turn, or out of it and into the next
  module _ (five : k ≡ 5) (spot : SpotIn s t) (only : Spot) (part : PartOf t only) where
    pub across_turn : (a : Way) (d : List ℕ) → Across s only p x n b (Some a) d → Across s t p x n b (Some a) d
    across_turn a d inner =
        record {
          few = (inner.few.0, omega (arith, inner.few.1, part.nodes_are, spot.any));
          kept = inner.kept;
          is = λ g γ e i j at α h. by_star s t k kind (λ (u : Exp). WayIs (led (some α) (across (tags_of g) u i j p (next_of x))) (Some a) d) five
              (λ f y.
              let v = across (tags_of g) f (suc i) j p (next_of x) in
              let q = led (out_of_lem f (suc i) j p) (into (tags_of g) f (suc i) j (next_of x)) in
              let tried = inner.is g γ f _ _ (part_at s t only part f y i j at.bracket_is at.atom_is) α h in
              way_moved (led_first (some α) v q (way_there tried)) tried)
              e at;
        }

    module _ (d : List ℕ) (inner : Across s only p x n b None d) where
      -- out of the turn
      next_turn : (g : List Production) → GrammarIs s g → (f : Exp) (i j : ℕ) → TreeAt s (suc t.node) f → t.bracket ≡ i → t.atom ≡ j → (α : List Bracket) → HoldsString α n b → {r : Past Way} {d' : List ℕ} →
          WayIs (led (joined (some α) (out_of_lem f (suc i) j p)) (into (tags_of g) f (suc i) j (next_of x))) r d' →
          WayIs (led (some α) (across (tags_of g) (star f) i j p (next_of x))) r d'
      next_turn g γ f i j y u q α h way =
          let v = across (tags_of g) f (suc i) j p (next_of x) in
          let o = out_of_lem f (suc i) j p in
          let m = into (tags_of g) f (suc i) j (next_of x) in
          let tried = inner.is g γ f _ _ (part_at s t only part f y i j u q) α h in
          way_moved (led_assoc (some α) o m ∙ led_second (some α) v (led o m) (way_missing tried)) way

      pub turns_none : (d' : List ℕ) → OutOf s only p n d None d' → Across s t p x n b None d'
      turns_none d' left =
          record {
            few = tt;
            kept = kept_then (omega arith) inner.kept left.kept;
            is = λ g γ e i j at α h. by_star s t k kind (λ (u : Exp). WayIs (led (some α) (across (tags_of g) u i j p (next_of x))) None d') five
                (λ f y. next_turn g γ f i j y at.bracket_is at.atom_is α h
                (way_stops _ (left.is f _ _ (part_at s t only part f y i j at.bracket_is at.atom_is) α (string_again inner.kept h))))
                e at;
          }

      pub across_turns : (out : ℕ) (d' : List ℕ) → OutOf s only p n d (Some out) d' → (r : Past Way) (d'' : List ℕ) → Into s only x out d' r d'' → Across s t p x n b r d''
      across_turns out d' left r d'' entered =
          record {
            few = longer_more n out (2 * only.nodes) (4 * t.nodes) _ left.few.0 (omega (arith, left.few.1, part.nodes_are, spot.any)) entered.few;
            kept = kept_then (omega arith) inner.kept (kept_then left.few.0 left.kept entered.kept);
            is = λ g γ e i j at α h. by_star s t k kind (λ (u : Exp). WayIs (led (some α) (across (tags_of g) u i j p (next_of x))) r d'') five
                (λ f y.
                let here = part_at s t only part f y i j at.bracket_is at.atom_is in
                next_turn g γ f i j y at.bracket_is at.atom_is α h (way_led _ (left.is f _ _ here α (string_again inner.kept h)) (entered.is g γ f _ _ here)))
                e at;
          }

  module _ (low : 3 ≤ k) (high : k ≤ 4) (two : Parts) (parts : PartsOf s t two) where
    -- the atom is in the second part: none leads from the first
    pub across_second : two.second.atom ≤ p → (r : Past Way) (d : List ℕ) → Across s two.second p x n b r d → Across s t p x n b r d
    across_second past r d second =
        record {
          few = longer_more n n (4 * two.second.nodes) (4 * t.nodes) _ (omega arith) (omega (arith, parts.both)) second.few;
          kept = second.kept;
          is = λ g γ e i j at α h.
              let next = next_of x in
              let o : Option (List Bracket) = some α in
              by_two s t k kind (λ (u : Exp). WayIs (led o (across (tags_of g) u i j p next)) r d) low high
              (λ _ l m y z.
              let q = across (tags_of g) m (suc i + nodes l) (j + atoms l) p next in
              let v = into (tags_of g) m (suc i + nodes l) (j + atoms l) next in
              let there_at = parts.second_at l m y z i j at.bracket_is at.atom_is in
              let away : Away j (atoms l) p = λ _ f. omega (arith, f, past, there_at.atom_is) in
              way_moved
              (sym (ap (λ (f : Option Found). led o (or_else (or_else f (led (out_of_lem l (suc i) j p) v)) q)) (across_away (tags_of g) next l (suc i) j p away)
              ∙ ap (λ (f : Option (List Bracket)). led o (or_else (led f v) q)) (out_away l (suc i) j p away)))
              (second.is g γ m _ _ there_at α h))
              (λ _ l m y z.
              let q = across (tags_of g) m (suc i + nodes l) (j + atoms l) p next in
              let there_at = parts.second_at l m y z i j at.bracket_is at.atom_is in
              let away : Away j (atoms l) p = λ _ f. omega (arith, f, past, there_at.atom_is) in
              way_moved (sym (ap (λ (f : Option Found). led o (or_else f q)) (across_away (tags_of g) next l (suc i) j p away))) (second.is g γ m _ _ there_at α h))
              e at;
        }

    pub across_first : (a : Way) (d : List ℕ) → Across s two.first p x n b (Some a) d → Across s t p x n b (Some a) d
    across_first a d first =
        record {
          few = (first.few.0, omega (arith, parts.both, first.few.1));
          kept = first.kept;
          is = λ g γ e i j at α h.
              let next = next_of x in
              let o : Option (List Bracket) = some α in
              by_two s t k kind (λ (u : Exp). WayIs (led o (across (tags_of g) u i j p next)) (Some a) d) low high
              (λ _ l m y z.
              let tried = first.is g γ l _ _ (parts.first_at l y i j at.bracket_is at.atom_is) α h in
              let v = across (tags_of g) l (suc i) j p next in
              let u = led (out_of_lem l (suc i) j p) (into (tags_of g) m (suc i + nodes l) (j + atoms l) next) in
              let q = across (tags_of g) m (suc i + nodes l) (j + atoms l) p next in
              let moved = way_moved (led_first o v u (way_there tried)) tried in
              way_moved (led_first o (or_else v u) q (way_there moved)) moved)
              (λ _ l m y z.
              let tried = first.is g γ l _ _ (parts.first_at l y i j at.bracket_is at.atom_is) α h in
              let v = across (tags_of g) l (suc i) j p next in
              let q = across (tags_of g) m (suc i + nodes l) (j + atoms l) p next in
              way_moved (led_first o v q (way_there tried)) tried)
              e at;
        }

    -- it is in the first part: none leads from the second
    module _ (d : List ℕ) (first : Across s two.first p x n b None d) (before : p < two.second.atom) where
      none_second : (g : List Production) (l m : Exp) (i j : ℕ) → TreeAt s (suc t.node) l → TreeAt s (suc t.node + nodes l) m → t.bracket ≡ i → t.atom ≡ j →
          across (tags_of g) m (suc i + nodes l) (j + atoms l) p (next_of x) ≡ none
      none_second g l m i j y z f q =
          let there_at = parts.second_at l m y z i j f q in
          across_away (tags_of g) (next_of x) m (suc i + nodes l) (j + atoms l) p (λ f _. omega (arith, f, before, there_at.atom_is))

      -- a concatenation: out of the first part and into the second
      module _ (c : k ≡ 3) where
        next_part : (g : List Production) → GrammarIs s g → (l m : Exp) (i j : ℕ) → TreeAt s (suc t.node) l → TreeAt s (suc t.node + nodes l) m → t.bracket ≡ i → t.atom ≡ j →
            (α : List Bracket) → HoldsString α n b → {r : Past Way} {d' : List ℕ} →
            WayIs (led (joined (some α) (out_of_lem l (suc i) j p)) (into (tags_of g) m (suc i + nodes l) (j + atoms l) (next_of x))) r d' →
            WayIs (led (some α) (across (tags_of g) (cat l m) i j p (next_of x))) r d'
        next_part g γ l m i j y z f q α h way =
            let v = across (tags_of g) l (suc i) j p (next_of x) in
            let u = out_of_lem l (suc i) j p in
            let a = into (tags_of g) m (suc i + nodes l) (j + atoms l) (next_of x) in
            let none_there = none_second g l m i j y z f q in
            let tried = first.is g γ l _ _ (parts.first_at l y i j f q) α h in
            way_moved
            (led_assoc (some α) u a ∙ led_second (some α) v (led u a) (way_missing tried)
            ∙ ap (led (some α)) (sym (ap (or_else (or_else v (led u a))) none_there ∙ or_none (or_else v (led u a)))))
            way

        pub cat_none : (d' : List ℕ) → OutOf s two.first p n d None d' → Across s t p x n b None d'
        cat_none d' left =
            record {
              few = tt;
              kept = kept_then (omega arith) first.kept left.kept;
              is = λ g γ e i j at α h. by_cat s t k kind (λ (u : Exp). WayIs (led (some α) (across (tags_of g) u i j p (next_of x))) None d') c
                  (λ l m y z. next_part g γ l m i j y z at.bracket_is at.atom_is α h
                  (way_stops _ (left.is l _ _ (parts.first_at l y i j at.bracket_is at.atom_is) α (string_again first.kept h))))
                  e at;
            }

        pub across_cat : (out : ℕ) (d' : List ℕ) → OutOf s two.first p n d (Some out) d' → (r : Past Way) (d'' : List ℕ) → Into s two.second x out d' r d'' → Across s t p x n b r d''
        across_cat out d' left r d'' entered =
            record {
              few = longer_more n out (2 * two.second.nodes) (4 * t.nodes) _ left.few.0 (omega (arith, left.few.1, parts.both)) entered.few;
              kept = kept_then (omega arith) first.kept (kept_then left.few.0 left.kept entered.kept);
              is = λ g γ e i j at α h. by_cat s t k kind (λ (u : Exp). WayIs (led (some α) (across (tags_of g) u i j p (next_of x))) r d'') c
                  (λ l m y z. next_part g γ l m i j y z at.bracket_is at.atom_is α h
                  (way_led _ (left.is l _ _ (parts.first_at l y i j at.bracket_is at.atom_is) α (string_again first.kept h))
                  (entered.is g γ m _ _ (parts.second_at l m y z i j at.bracket_is at.atom_is))))
                  e at;
            }

      -- a union: nothing was found in the first part
      pub across_alt : (k ≡ 3 → ⊥) → Across s t p x n b None d
      across_alt c =
          record {
            few = tt;
            kept = first.kept;
            is = λ g γ e i j at α h. by_alt s t k kind (λ (u : Exp). WayIs (led (some α) (across (tags_of g) u i j p (next_of x))) None d) low high c
                (λ l m y z.
                let v = across (tags_of g) l (suc i) j p (next_of x) in
                let none_there = none_second g l m i j y z at.bracket_is at.atom_is in
                way_moved (ap (led (some α)) (sym (ap (or_else v) none_there ∙ or_none v))) (first.is g γ l _ _ (parts.first_at l y i j at.bracket_is at.atom_is) α h))
                e at;
          }
