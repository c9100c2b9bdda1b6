-- A start tag, one law for each return of its function. Outside: the root, if the sheet has a production of the start and the tag. Inside: the way to
-- an atom that can be the tag, a production of the atom's nonterminal and the tag, room for one more element, the brackets' visits, the tag's own.
-- Assumes nothing.
use Rattle.std.specs.Prelude.{Option as Taken, Some, None}
use mathlib.Core.Path.{◌≡◌, sym, ap, ◌∙◌, subst}
use mathlib.Core.Bool.{Bool, true, false, cond}
use mathlib.Core.List.{List, [], ◌∷◌, ◌++◌}
use mathlib.Core.Option.{Option, none, some}
use Prim.Native.Nat.{ℕ, suc, ◌+◌, ◌*◌, ◌≤◌, ◌<◌}
use native.Mathlib.Omega.{arith}
use borrow.Author.Tests.{le-leb, lt-leb}
use lib.Dec.{leb}
use lib.ListN.{length, take}
use Rattle.expressions.specs.Grammar.{tag, content_of}
use Rattle.layout.specs.Layout.{start}
use Rattle.trees.specs.declared.Symbol.TheVariants.{Tag}
use Rattle.sheet.specs.Sheet.{Sheet}
use Rattle.visits.specs.Written.{Pen}
use Rattle.few.specs.Strings.{most_brackets}
use Rattle.ways.specs.Answers.{AtomWayIs}
use Rattle.ways.specs.declared.Way.{Way}
use Rattle.runs.specs.Lookup.{find}
use Rattle.runs.specs.Visits.{grammar}
use Rattle.runs.specs.Events.{Event, starts}
use Rattle.runs.specs.Acts.{start_tag, bracket_acts, act}
use Rattle.runs.specs.Way.{Way as Found}
use Rattle.runs.specs.Machine.{Open, Control, before, inside, after, at_start, at_place_lem, most, Turn, opening_up, start_at, start_by, root_by, Configuration as Standing, Answer, acted, turned, step}
use Rattle.lookups.specs.Found.{ProductionFound}
use Rattle.state.specs.declared.State.{State}
use Rattle.state.specs.Changes.{top_of}
use Rattle.state.specs.Meaning.{open_of, opens_of, meaning_of}
use Rattle.acts.specs.Acted.{Comes, EntersAs, visit_reach}
use Rattle.acts.specs.Seen.{ActedSeen}
use Rattle.steps.specs.Seen.{SteppedSeen}
use Rattle.steps.specs.Stepped.{event_visits, StepAnswered, SteppedAs}
use Rattle.steps.specs.Parts.{answering, FollowsAs}
use Rattle.steps.proofs.Joined.{on_pen, answered_as}
use Rattle.steps.proofs.Places.{outside, inside_at, depth_is}
use Rattle.steps.proofs.Tops.{production_found, no_production, Leads, no_way_there, way_leads, to_nonterminal}
use Rattle.steps.proofs.Turns.{Owed, refused_at, refusal, refusal_behind, went_as, went_on, at_step, only_act, rejected_first, both_done}

-- where no element is open
pub closed_root : (z : State) → z.depth ≡ 0 → z.rooted ≡ true → (meaning_of z).control ≡ after
closed_root z e b = outside z e ∙ ap (λ (k : Bool). cond k after before) b

pub no_root : (z : State) → z.depth ≡ 0 → z.rooted ≡ false → (meaning_of z).control ≡ before
no_root z e b = outside z e ∙ ap (λ (k : Bool). cond k after before) b

-- the turn at the root
root_turn : (a : Sheet) (z : State) (t n : ℕ) → z.depth ≡ 0 → z.rooted ≡ false → a.start_nonterminal ≡ n →
    step a (meaning_of z) (starts (some t)) ≡ turned a (meaning_of z).store (root_by (find (grammar a) n t))
root_turn a z t n o b e =
    at_step a (meaning_of z) before (no_root z o b) (starts (some t))
    ∙ ap (λ (m : ℕ). turned a (meaning_of z).store (root_by (find (grammar a) m t))) e

-- the turn inside an element, where a way was found
start_turn : (a : Sheet) (z : State) (t : ℕ) (w : Way) (b : List ℕ) → (L : Leads a z (tag t) w b) →
    step a (meaning_of z) (starts (some t)) ≡ turned a (meaning_of z).store (start_at most (open_of (top_of z)) L.os L.way (find (grammar a) w.argument t))
start_turn a z t w b L =
    at_step a (meaning_of z) (inside (open_of (top_of z)) L.os) L.stands (starts (some t))
    ∙ ap (λ (y : Option Found). turned a (meaning_of z).store (start_by (grammar a) most (open_of (top_of z)) L.os t y)) L.is_way
    ∙ ap (λ (y : Option ℕ). turned a (meaning_of z).store (start_at most (open_of (top_of z)) L.os L.way y))
    (to_nonterminal (grammar a) (content_of (grammar a) (top_of z).production) (top_of z).place t L.way w b L.is_way L.held)

abbrev opens : State → ℕ → List Open → Found → Bool → Turn
opens z q os v b = opening_up b (bracket_acts (top_of z).production v.string ++ start_tag q ∷ []) (inside (at_start q) (at_place_lem (open_of (top_of z)) v.place ∷ os))

depth_turn : (a : Sheet) (z : State) (t q : ℕ) (w : Way) (l : List ℕ) → (L : Leads a z (tag t) w l) → find (grammar a) w.argument t ≡ some q →
    (b : Bool) → leb (suc (suc (length L.os))) most ≡ b → step a (meaning_of z) (starts (some t)) ≡ turned a (meaning_of z).store (opens z q L.os L.way b)
depth_turn a z t q w l L e b k =
    start_turn a z t w l L ∙ ap (λ (y : Option ℕ). turned a (meaning_of z).store (start_at most (open_of (top_of z)) L.os L.way y)) e
    ∙ ap (λ (y : Bool). turned a (meaning_of z).store (opens z q L.os L.way y)) k

module _ {s : List ℕ} {z : State} {p : Pen} {r : SteppedSeen} {d : List ℕ} where
  -- after the root
  pub after_root : {x : Event} → r ≡ refused_at 26 z p → d ≡ p.lent → z.depth ≡ 0 → z.rooted ≡ true → SteppedAs s x z p r d
  after_root {x} e k o b = refusal 26 e k (λ a i h f. at_step a (meaning_of z) after (closed_root z o b) x)

  -- no tag of the sheet
  pub root_no_tag : r ≡ refused_at 23 z p → d ≡ p.lent → z.depth ≡ 0 → z.rooted ≡ false → SteppedAs s (starts none) z p r d
  root_no_tag e k o b = refusal 23 e k (λ a i h f. at_step a (meaning_of z) before (no_root z o b) (starts none))

  pub inside_no_tag : r ≡ refused_at 23 z p → d ≡ p.lent → 0 < z.depth → SteppedAs s (starts none) z p r d
  inside_no_tag e k o =
      refusal 23 e k (λ a i h f.
      let j = inside_at z h o in
      at_step a (meaning_of z) (inside (open_of (top_of z)) j.around) j.stands (starts none))

  module _ (t : ℕ) where
    -- the root
    module _ (o : z.depth ≡ 0) (b : z.rooted ≡ false) {n : ℕ} (is_start : n ≡ start s) where
      pub root_missing : ProductionFound s n t None → r ≡ refused_at 23 z p → d ≡ p.lent → SteppedAs s (starts (some t)) z p r d
      root_missing P e k =
          refusal 23 e k (λ a i h f. root_turn a z t n o b (i.start_is ∙ sym is_start) ∙ ap (λ (y : Option ℕ). turned a (meaning_of z).store (root_by y)) (no_production i P))

      pub root_done : {q : ℕ} → ProductionFound s n t (Some q) → (e : Taken ActedSeen) → EntersAs s q z p e d → r ≡ answering z p.at e → SteppedAs s (starts (some t)) z p r d
      root_done {q} P e E k = went_as e visit_reach 1 (omega arith) (omega arith) (record { reach = E.reach; count = E.count; dry = E.dry }) k right
        where
          right : Owed s (starts (some t)) z p (answering z p.at e) d
          right a i h f =
              let c : Control = inside (at_start q) [] in
              let w : step a (meaning_of z) (starts (some t)) ≡ acted c (act a (start_tag q) (meaning_of z).store) =
              root_turn a z t n o b (i.start_is ∙ sym is_start) ∙ ap (λ (y : Option ℕ). turned a (meaning_of z).store (root_by y)) (production_found i P)
              ∙ ap (acted c) (only_act a (start_tag q) (meaning_of z).store) in
              let C : Comes (act a (start_tag q) (meaning_of z).store) c z p e d =
              subst (λ (y : Control). Comes (act a (start_tag q) (meaning_of z).store) (inside (at_start q) (opens_of y)) z p e d) (no_root z o b) (E.right a i h (omega (arith, o))) in
              subst (λ (y : Answer). StepAnswered y z p (answering z p.at e) d) (sym w) (answered_as c (act a (start_tag q) (meaning_of z).store) z p e d C)

    -- inside an element
    module _ (o : 0 < z.depth) {b : List ℕ} where
      pub no_way : AtomWayIs s (top_of z).production (top_of z).place (Tag t) None b → r ≡ refused_at 23 z p → d ≡ p.lent → SteppedAs s (starts (some t)) z p r d
      no_way W e k =
          refusal 23 e k (λ a i h f.
          let j = inside_at z h o in
          at_step a (meaning_of z) (inside (open_of (top_of z)) j.around) j.stands (starts (some t))
          ∙ ap (λ (y : Option Found). turned a (meaning_of z).store (start_by (grammar a) most (open_of (top_of z)) j.around t y)) (no_way_there i h f o W))

      module _ {w : Way} (W : AtomWayIs s (top_of z).production (top_of z).place (Tag t) (Some w) b) where
        pub no_element : ProductionFound s w.argument t None → r ≡ refused_at 23 z p → d ≡ p.lent → SteppedAs s (starts (some t)) z p r d
        no_element P e k =
            refusal 23 e k (λ a i h f.
            let L = way_leads i h f o W in
            start_turn a z t w b L ∙ ap (λ (y : Option ℕ). turned a (meaning_of z).store (start_at most (open_of (top_of z)) L.os L.way y)) (no_production i P))

        module _ {q : ℕ} (P : ProductionFound s w.argument t (Some q)) where
          pub too_deep : r ≡ refused_at 24 z p → d ≡ p.lent → most ≤ z.depth → SteppedAs s (starts (some t)) z p r d
          too_deep e k m =
              refusal 24 e k (λ a i h f.
              let L = way_leads i h f o W in
              depth_turn a z t q w b L (production_found i P) false (lt-leb (suc (suc (length L.os))) most (omega (arith, L.deep, m))))

          module _ (room : z.depth < most) {mid : List ℕ} where
            pub start_rejected : FollowsAs s w.place (take w.length b) z p None mid → d ≡ mid → r ≡ refused_at 25 z p → SteppedAs s (starts (some t)) z p r d
            start_rejected F same e =
                refusal_behind 25 e (λ k. same ∙ F.dry k) (λ a i h f.
                let L = way_leads i h f o W in
                rejected_first a z (bracket_acts (top_of z).production L.way.string) (start_tag q) (inside (at_start q) (at_place_lem (open_of (top_of z)) L.way.place ∷ L.os)) (starts (some t))
                (depth_turn a z t q w b L (production_found i P) true (le-leb (suc (suc (length L.os))) most (omega (arith, L.deep, room))))
                (F.right a i h f L.os L.stands (tag t) L.way L.is_way L.held.place_is L.bytes))

            pub start_done : {u : ActedSeen} → FollowsAs s w.place (take w.length b) z p (Some u) mid → (e : Taken ActedSeen) → EntersAs s q u.state (on_pen p mid u.at) e d → r ≡ answering z p.at e
                → SteppedAs s (starts (some t)) z p r d
            start_done {u} F e E k =
                went_as e (most_brackets * visit_reach + visit_reach) event_visits (omega arith) (omega arith)
                (went_on u e (record { reach = F.reach; count = F.count; dry = F.dry }) (record { reach = E.reach; count = E.count; dry = E.dry })) k right
              where
                right : Owed s (starts (some t)) z p (answering z p.at e) d
                right a i h f =
                    let L = way_leads i h f o W in
                    let to : Control = inside (at_place_lem (open_of (top_of z)) L.way.place) L.os in
                    both_done a z (bracket_acts (top_of z).production L.way.string) (start_tag q) (inside (at_start q) (at_place_lem (open_of (top_of z)) L.way.place ∷ L.os)) (starts (some t))
                    (depth_turn a z t q w b L (production_found i P) true (le-leb (suc (suc (length L.os))) most (omega (arith, L.deep, room))))
                    p u mid to (F.right a i h f L.os L.stands (tag t) L.way L.is_way L.held.place_is L.bytes) e d
                    (λ m D.
                    let at : (meaning_of u.state).control ≡ to = ap (λ (y : Standing). y.control) D.means in
                    subst (λ (y : Control). Comes (act a (start_tag q) (meaning_of u.state).store) (inside (at_start q) (opens_of y)) u.state (on_pen p mid u.at) e d) at
                    (E.right a i D.shaped (omega (arith, depth_is u.state D.shaped, ap (λ (y : Control). length (opens_of y)) at, L.deep, room))))
