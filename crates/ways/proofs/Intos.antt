-- The walk from the start to an atom: each return from what the walks behind the node handed back.
-- Assumes nothing.
use mathlib.Core.Path.{◌≡◌, ◌∙◌}
use Rattle.std.specs.Prelude.{Option as Past, Some, None}
use mathlib.Core.List.{List, [], ◌∷◌, ◌++◌}
use mathlib.Core.Option.{Option, some}
use Prim.Native.Nat.{ℕ, suc, ◌+◌, ◌*◌, ◌≤◌, ◌<◌}
use native.Mathlib.Omega.{arith}
use Rattle.expressions.specs.Expr.{Exp, cat, nodes, atoms}
use Rattle.expressions.specs.Words.{Bracket, opening}
use Rattle.expressions.specs.Grammar.{Production, tags_of, can_be}
use Rattle.layout.specs.Records.{kind_of}
use Rattle.runs.specs.Options.{or_else, when_true}
use Rattle.runs.specs.Way.{joined, led, through, into}
use Rattle.trees.specs.declared.Symbol.{Symbol}
use Rattle.trees.specs.Symbol.{next_of}
use Rattle.trees.specs.Trees.{TreeAt}
use Rattle.trees.specs.GrammarAt.{GrammarIs}
use Rattle.ways.specs.declared.Way.{Way}
use Rattle.ways.specs.declared.Spot.{Spot}
use Rattle.ways.specs.declared.Parts.{Parts}
use Rattle.ways.specs.Held.{HoldsString, WayIs, no_way, Bracketed}
use Rattle.ways.specs.Spot.{SpotIn, PartOf, PartsOf}
use Rattle.ways.specs.Walks.{AtomWay, Through, Into}
use Rattle.ways.proofs.Strings.{led_assoc, led_first, led_second}
use Rattle.ways.proofs.Holds.{way_moved, kept_itself, kept_then, string_again, way_there, way_missing, way_led, way_stops, longer_more}
use Rattle.ways.proofs.Spots.{by_leaf, by_empty, by_star, by_two, by_cat, by_alt, part_at}

abbrev first_bracket : ℕ → Option (List Bracket)
first_bracket i = some (opening i ∷ [])

-- no atom is in the empty node
pub into_empty : (s : List ℕ) (t : Spot) (k : ℕ) → k ≡ kind_of s t.node → 5 < k → (x : Symbol) (n : ℕ) (b : List ℕ) → Into s t x n b None b
into_empty s t k kind high x n b =
    record { few = tt; kept = kept_itself n b; is = λ g γ e i j at α h. by_empty s t k kind (λ (u : Exp). WayIs (led (some α) (into (tags_of g) u i j (next_of x))) None b) high no_way e at }

module _ (s : List ℕ) (t : Spot) (k : ℕ) (kind : k ≡ kind_of s t.node) (spot : SpotIn s t) (x : Symbol) (n : ℕ) (b : List ℕ) (inside : ℕ) (b' : List ℕ) (op : Bracketed opening t.bracket n b inside b') where
  pub into_leaf : k < 3 → (r : Past Way) → AtomWay s t x inside b' r → Into s t x n b r b'
  into_leaf low r aw =
      record {
        few = longer_more n inside 0 (2 * t.nodes) _ (omega (arith, op.one_more)) (omega (arith, spot.any, op.one_more)) aw.few;
        kept = op.kept;
        is = λ g γ e i j at α h. by_leaf s t k kind (λ (u : Exp). WayIs (led (some α) (into (tags_of g) u i j (next_of x))) r b') low
            (λ a at'. way_moved (led_assoc (some α) (first_bracket i) (when_true (can_be (tags_of g) a (next_of x)) (record { string = []; place = j; kind = a })))
            (aw.is g γ a i j at' _ (op.is i at.bracket_is α h))) e at;
      }

  pub into_star : k ≡ 5 → (only : Spot) → PartOf t only → (r : Past Way) (d : List ℕ) → Into s only x inside b' r d → Into s t x n b r d
  into_star five only part r d inner =
      record {
        few = longer_more n inside (2 * only.nodes) (2 * t.nodes) _ (omega (arith, op.one_more)) (omega (arith, spot.any, op.one_more, part.nodes_are)) inner.few;
        kept = kept_then (omega (arith, op.one_more)) op.kept inner.kept;
        is = λ g γ e i j at α h. by_star s t k kind (λ (u : Exp). WayIs (led (some α) (into (tags_of g) u i j (next_of x))) r d) five
            (λ f y. way_moved (led_assoc (some α) (first_bracket i) (into (tags_of g) f (suc i) j (next_of x)))
            (inner.is g γ f _ _ (part_at s t only part f y i j at.bracket_is at.atom_is) _ (op.is i at.bracket_is α h))) e at;
      }

  module _ (low : 3 ≤ k) (high : k ≤ 4) (two : Parts) (parts : PartsOf s t two) where
    pub into_first : (a : Way) (d : List ℕ) → Into s two.first x inside b' (Some a) d → Into s t x n b (Some a) d
    into_first a d first =
        record {
          few = (omega (arith, op.one_more, first.few.0), omega (arith, parts.both, op.one_more, first.few.1));
          kept = kept_then (omega (arith, op.one_more)) op.kept first.kept;
          is = λ g γ e i j at α h.
              let next = next_of x in
              let o : Option (List Bracket) = some (α ++ opening i ∷ []) in
              by_two s t k kind (λ (u : Exp). WayIs (led (some α) (into (tags_of g) u i j next)) (Some a) d) low high
              (λ _ l m y z.
              let tried = first.is g γ l _ _ (parts.first_at l y i j at.bracket_is at.atom_is) _ (op.is i at.bracket_is α h) in
              let p = into (tags_of g) l (suc i) j next in
              let q = led (through l (suc i)) (into (tags_of g) m (suc i + nodes l) (j + atoms l) next) in
              way_moved (led_first o p q (way_there tried) ∙ led_assoc (some α) (first_bracket i) (or_else p q)) tried)
              (λ _ l m y z.
              let tried = first.is g γ l _ _ (parts.first_at l y i j at.bracket_is at.atom_is) _ (op.is i at.bracket_is α h) in
              let p = into (tags_of g) l (suc i) j next in
              let q = into (tags_of g) m (suc i + nodes l) (j + atoms l) next in
              way_moved (led_first o p q (way_there tried) ∙ led_assoc (some α) (first_bracket i) (or_else p q)) tried)
              e at;
        }

    module _ (d : List ℕ) (first : Into s two.first x inside b' None d) where
      module _ (c : k ≡ 3) where
        -- on through the first part
        past_first : (g : List Production) → GrammarIs s g → (l m : Exp) (i j : ℕ) → TreeAt s (suc t.node) l → TreeAt s (suc t.node + nodes l) m → t.bracket ≡ i → t.atom ≡ j →
            (α : List Bracket) → HoldsString α n b → {r : Past Way} {d' : List ℕ} →
            WayIs (led (joined (some (α ++ opening i ∷ [])) (through l (suc i))) (into (tags_of g) m (suc i + nodes l) (j + atoms l) (next_of x))) r d' →
            WayIs (led (some α) (into (tags_of g) (cat l m) i j (next_of x))) r d'
        past_first g γ l m i j y z f q α h way =
            let o : Option (List Bracket) = some (α ++ opening i ∷ []) in
            let p = into (tags_of g) l (suc i) j (next_of x) in
            let v = through l (suc i) in
            let u = into (tags_of g) m (suc i + nodes l) (j + atoms l) (next_of x) in
            let tried = first.is g γ l _ _ (parts.first_at l y i j f q) _ (op.is i f α h) in
            way_moved (led_assoc o v u ∙ led_second o p (led v u) (way_missing tried) ∙ led_assoc (some α) (first_bracket i) (or_else p (led v u))) way

        pub into_cat_none : (d' : List ℕ) → Through s two.first inside d None d' → Into s t x n b None d'
        into_cat_none d' passed =
            record {
              few = tt;
              kept = kept_then (omega (arith, op.one_more)) op.kept (kept_then (omega arith) first.kept passed.kept);
              is = λ g γ e i j at α h. by_cat s t k kind (λ (u : Exp). WayIs (led (some α) (into (tags_of g) u i j (next_of x))) None d') c
                  (λ l m y z. past_first g γ l m i j y z at.bracket_is at.atom_is α h
                  (way_stops _ (passed.is l _ _ (parts.first_at l y i j at.bracket_is at.atom_is) _ (string_again first.kept (op.is i at.bracket_is α h)))))
                  e at;
            }

        pub into_cat : (over : ℕ) (d' : List ℕ) → Through s two.first inside d (Some over) d' → (r : Past Way) (d'' : List ℕ) → Into s two.second x over d' r d'' → Into s t x n b r d''
        into_cat over d' passed r d'' second =
            record {
              few = longer_more n over (2 * two.second.nodes) (2 * t.nodes) _ (omega (arith, op.one_more, passed.few.0)) (omega (arith, parts.both, op.one_more, passed.few.1)) second.few;
              kept = kept_then (omega (arith, op.one_more)) op.kept (kept_then (omega arith) first.kept (kept_then passed.few.0 passed.kept second.kept));
              is = λ g γ e i j at α h. by_cat s t k kind (λ (u : Exp). WayIs (led (some α) (into (tags_of g) u i j (next_of x))) r d'') c
                  (λ l m y z. past_first g γ l m i j y z at.bracket_is at.atom_is α h
                  (way_led _ (passed.is l _ _ (parts.first_at l y i j at.bracket_is at.atom_is) _ (string_again first.kept (op.is i at.bracket_is α h)))
                  (second.is g γ m _ _ (parts.second_at l m y z i j at.bracket_is at.atom_is))))
                  e at;
            }

      pub into_alt : (k ≡ 3 → ⊥) → (r : Past Way) (d' : List ℕ) → Into s two.second x inside d r d' → Into s t x n b r d'
      into_alt c r d' second =
          record {
            few = longer_more n inside (2 * two.second.nodes) (2 * t.nodes) _ (omega (arith, op.one_more)) (omega (arith, parts.both, op.one_more)) second.few;
            kept = kept_then (omega (arith, op.one_more)) op.kept (kept_then (omega arith) first.kept second.kept);
            is = λ g γ e i j at α h. by_alt s t k kind (λ (u : Exp). WayIs (led (some α) (into (tags_of g) u i j (next_of x))) r d') low high c
                (λ l m y z.
                let o : Option (List Bracket) = some (α ++ opening i ∷ []) in
                let p = into (tags_of g) l (suc i) j (next_of x) in
                let q = into (tags_of g) m (suc i + nodes l) (j + atoms l) (next_of x) in
                let given = op.is i at.bracket_is α h in
                let tried = first.is g γ l _ _ (parts.first_at l y i j at.bracket_is at.atom_is) _ given in
                way_moved
                (led_second o p q (way_missing tried) ∙ led_assoc (some α) (first_bracket i) (or_else p q))
                (second.is g γ m _ _ (parts.second_at l m y z i j at.bracket_is at.atom_is) _ (string_again first.kept given)))
                e at;
          }
