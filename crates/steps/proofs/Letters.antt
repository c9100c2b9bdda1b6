-- A character, one law for each return of its function: the way to an atom that can be one, the brackets' visits, the character itself.
-- Assumes nothing.
use Rattle.std.specs.Prelude.{Some, None}
use mathlib.Core.Path.{◌≡◌, ap, ◌∙◌, subst}
use mathlib.Core.Bool.{false}
use mathlib.Core.List.{List, [], ◌∷◌, ◌++◌}
use mathlib.Core.Option.{Option}
use Prim.Native.Nat.{ℕ, ◌+◌, ◌*◌, ◌<◌}
use native.Mathlib.Omega.{arith}
use lib.ListN.{take}
use Rattle.expressions.specs.Grammar.{character}
use Rattle.trees.specs.declared.Symbol.TheVariants.{Character}
use Rattle.sheet.specs.Sheet.{Sheet}
use Rattle.visits.specs.Written.{Pen}
use Rattle.few.specs.Strings.{most_brackets}
use Rattle.ways.specs.Answers.{AtomWayIs}
use Rattle.ways.specs.declared.Way.{Way}
use Rattle.runs.specs.Events.{letter}
use Rattle.runs.specs.Acts.{letter_read, bracket_acts, act, acts}
use Rattle.runs.specs.Way.{Way as Found}
use Rattle.runs.specs.Machine.{Control, before, inside, at_place_lem, char_by, Configuration as Standing, acted, turned, step}
use Rattle.state.specs.declared.State.{State}
use Rattle.state.specs.Changes.{top_of}
use Rattle.state.specs.Meaning.{open_of, meaning_of}
use Rattle.acts.specs.Acted.{Comes, ReadsAs, visit_reach}
use Rattle.acts.specs.Seen.{ActedSeen}
use Rattle.steps.specs.Seen.{SteppedSeen}
use Rattle.steps.specs.Stepped.{SteppedAs}
use Rattle.steps.specs.Parts.{answering, FollowsAs}
use Rattle.steps.proofs.Joined.{on_pen}
use Rattle.steps.proofs.Places.{inside_at}
use Rattle.steps.proofs.Tops.{Leads, no_way_there, way_leads}
use Rattle.steps.proofs.Turns.{Owed, refused_at, refusal, refusal_behind, went_as, went_on, at_step, rejected_first, both_done}
use Rattle.steps.proofs.Starts.{no_root}

-- the turn inside an element, where a way was found
char_turn : (a : Sheet) (z : State) (c : ℕ) (w : Way) (b : List ℕ) (L : Leads a z character w b) →
    step a (meaning_of z) (letter c)
    ≡ acted (inside (at_place_lem (open_of (top_of z)) L.way.place) L.os) (acts a (bracket_acts (top_of z).production L.way.string ++ letter_read c ∷ []) (meaning_of z).store)
char_turn a z c w b L =
    at_step a (meaning_of z) (inside (open_of (top_of z)) L.os) L.stands (letter c)
    ∙ ap (λ (y : Option Found). turned a (meaning_of z).store (char_by (open_of (top_of z)) L.os c y)) L.is_way

module _ {s : List ℕ} {z : State} {p : Pen} {r : SteppedSeen} {d : List ℕ} (c : ℕ) where
  pub char_before : r ≡ refused_at 23 z p → d ≡ p.lent → z.depth ≡ 0 → z.rooted ≡ false → SteppedAs s (letter c) z p r d
  char_before e k o b = refusal 23 e k (λ a i h f. at_step a (meaning_of z) before (no_root z o b) (letter c))

  module _ (o : 0 < z.depth) {b : List ℕ} where
    pub char_no_way : AtomWayIs s (top_of z).production (top_of z).place Character None b → r ≡ refused_at 23 z p → d ≡ p.lent → SteppedAs s (letter c) z p r d
    char_no_way W e k =
        refusal 23 e k (λ a i h f.
        let j = inside_at z h o in
        at_step a (meaning_of z) (inside (open_of (top_of z)) j.around) j.stands (letter c)
        ∙ ap (λ (y : Option Found). turned a (meaning_of z).store (char_by (open_of (top_of z)) j.around c y)) (no_way_there i h f o W))

    module _ {w : Way} (W : AtomWayIs s (top_of z).production (top_of z).place Character (Some w) b) {mid : List ℕ} where
      pub char_rejected : FollowsAs s w.place (take w.length b) z p None mid → d ≡ mid → r ≡ refused_at 25 z p → SteppedAs s (letter c) z p r d
      char_rejected F same e =
          refusal_behind 25 e (λ k. same ∙ F.dry k) (λ a i h f.
          let L = way_leads i h f o W in
          rejected_first a z (bracket_acts (top_of z).production L.way.string) (letter_read c) (inside (at_place_lem (open_of (top_of z)) L.way.place) L.os) (letter c) (char_turn a z c w b L)
          (F.right a i h f L.os L.stands character L.way L.is_way L.held.place_is L.bytes))

      pub char_done : {u : ActedSeen} → FollowsAs s w.place (take w.length b) z p (Some u) mid → (e : ActedSeen) → ReadsAs c u.state (on_pen p mid u.at) e d → r ≡ answering z p.at (Some e) → SteppedAs s (letter c) z p r d
      char_done {u} F e E k =
          went_as (Some e) (most_brackets * visit_reach + visit_reach) most_brackets (omega arith) (omega arith)
          (went_on u (Some e) {v' = 0} (record { reach = F.reach; count = F.count; dry = F.dry }) (record { reach = E.reach; count = omega (arith, E.count); dry = E.dry })) k right
        where
          right : Owed s (letter c) z p (answering z p.at (Some e)) d
          right a i h f =
              let L = way_leads i h f o W in
              let to : Control = inside (at_place_lem (open_of (top_of z)) L.way.place) L.os in
              both_done a z (bracket_acts (top_of z).production L.way.string) (letter_read c) to (letter c) (char_turn a z c w b L)
              p u mid to (F.right a i h f L.os L.stands character L.way L.is_way L.held.place_is L.bytes) (Some e) d
              (λ m D.
              subst (λ (y : Control). Comes (act a (letter_read c) (meaning_of u.state).store) y u.state (on_pen p mid u.at) (Some e) d) (ap (λ (y : Standing). y.control) D.means) (E.right a D.shaped))
