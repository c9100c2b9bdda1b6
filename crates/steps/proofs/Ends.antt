-- An end tag, one law for each return of its function: it is not the innermost element's own; the expression cannot end here; a bracket's visit
-- rejects; the element's second visit. After the brackets one set is left of the element, its production's.
-- Assumes nothing.
use mathlib.Core.Path.{◌≡◌, sym, ap, ◌∙◌}
use mathlib.Core.Bool.{Bool, true, false}
use mathlib.Core.List.{List, [], ◌∷◌, ◌++◌}
use mathlib.Core.Option.{Option, none, some}
use Prim.Native.Nat.{ℕ, suc, ◌+◌, ◌*◌, ◌<◌}
use native.Mathlib.Omega.{arith}
use lib.Dec.{eqb}
use Rattle.std.specs.Prelude.{Option as Answered, Some, None}
use Rattle.std.specs.Option.{option_eq}
use lib.ListN.{length, take}
use Rattle.expressions.specs.Words.{Bracket}
use Rattle.expressions.specs.Grammar.{content_of}
use Rattle.layout.specs.LaidOut.{NumberRead}
use Rattle.layout.specs.Records.{tag_number_of}
use Rattle.sheet.specs.Sheet.{Sheet, IsSheet}
use Rattle.visits.specs.Written.{Pen}
use Rattle.few.specs.Strings.{most_brackets}
use Rattle.ways.specs.Answers.{EndWayIs}
use Rattle.runs.specs.Lookup.{tag_of}
use Rattle.runs.specs.Visits.{grammar, Saved}
use Rattle.runs.specs.Events.{ends}
use Rattle.runs.specs.Nodes.{through_nodes}
use Rattle.runs.specs.Acts.{Store, end_tag, bracket_acts, acts}
use Rattle.runs.specs.Way.{end_way}
use Rattle.runs.specs.Machine.{Open, before, inside, outer, same_tag, own_tag, end_by, Configuration as Standing, acted, turned, step}
use Rattle.runs.proofs.Kept.{kept_string}
use Rattle.fit.specs.RunFits.{RunFits}
use Rattle.state.specs.declared.State.{State}
use Rattle.state.specs.Changes.{top_of}
use Rattle.state.specs.Meaning.{open_of, sets_of, meaning_of, Shaped}
use Rattle.state.proofs.Meant.{inside_open}
use Rattle.acts.specs.Acted.{Done, Comes, BracketsAs, LeavesAs, visit_reach}
use Rattle.acts.specs.Seen.{ActedSeen}
use Rattle.steps.specs.Seen.{SteppedSeen}
use Rattle.steps.specs.Stepped.{event_visits, tag_in, SteppedAs}
use Rattle.steps.specs.Parts.{answering}
use Rattle.steps.proofs.Joined.{on_pen}
use Rattle.steps.proofs.Places.{Inside, inside_at, sets_are}
use Rattle.steps.proofs.Tops.{top_below, tag_is, end_is, top_ends, line_found, line_missing}
use Rattle.steps.proofs.Turns.{Owed, refused_at, refusal, refusal_behind, went_as, went_on, at_step, done_is, rejected_first, both_done}
use Rattle.steps.proofs.Starts.{no_root}

-- whether it is the tag that was read
same_as : (t : Answered ℕ) (u k : ℕ) (b : Bool) → u ≡ k → option_eq eqb t (Some u) ≡ b → same_tag (tag_in t) k ≡ b
same_as None u k b q e = e
same_as (Some t) u k b q e = ap (eqb t) (sym q) ∙ e

-- the turn inside an element
end_turn : (a : Sheet) (z : State) (j : Inside z) (t : Answered ℕ) (b : Bool) → same_tag (tag_in t) (tag_of (grammar a) (top_of z).production) ≡ b →
    step a (meaning_of z) (ends (tag_in t))
    ≡ turned a (meaning_of z).store (own_tag b (end_by (open_of (top_of z)) j.around (end_way (content_of (grammar a) (top_of z).production) (top_of z).place)))
end_turn a z j t b e =
    at_step a (meaning_of z) (inside (open_of (top_of z)) j.around) j.stands (ends (tag_in t))
    ∙ ap (λ (y : Bool). turned a (meaning_of z).store (own_tag y (end_by (open_of (top_of z)) j.around (end_way (content_of (grammar a) (top_of z).production) (top_of z).place)))) e

-- where the string closes every node, the production's set is left
one_left : (a : Sheet) (q : ℕ) (α : List Bracket) (z : State) (p : Pen) (b : ActedSeen) (d : List ℕ) (m : Store) → Shaped z → (j : Inside z) → (ns : List ℕ) → through_nodes 12 α ns ≡ some [] →
    length (sets_of (top_of z)) ≡ suc (length ns) → acts a (bracket_acts q α) (meaning_of z).store ≡ some m → Done (meaning_of z).control m z p b d → 0 < (top_of b.state).«open»
one_left a q α z p b d m h j ns t l e D =
    let k = kept_string a q j.kept_around 12 α ns [] t (sets_of (top_of z)) (meaning_of z).store.env l m
    (ap (λ (y : List (List Saved)). acts a (bracket_acts q α) (record { kept = y; env = (meaning_of z).store.env })) (sym j.keeps) ∙ e) in
    let c : (meaning_of b.state).control ≡ inside (open_of (top_of z)) j.around = ap (λ (y : Standing). y.control) D.means ∙ j.stands in
    let o = inside_open b.state (open_of (top_of z)) j.around c in
    let v = inside_at b.state D.shaped o in
    let x : sets_of (top_of b.state) ∷ v.kept_around ≡ k.0 ∷ j.kept_around = sym v.keeps ∙ ap (λ (y : Standing). y.store.kept) D.means ∙ k.1 in
    let y : sets_of (top_of b.state) ≡ k.0 = cc in
    omega (arith, sets_are b.state D.shaped o, ap length y, k.2)

-- its own end tag
own_turn : {s : List ℕ} {a : Sheet} (i : IsSheet s a) {z : State} (h : Shaped z) (f : RunFits a (meaning_of z)) (o : 0 < z.depth) (t : Answered ℕ) {u : ℕ} → NumberRead 256 (tag_number_of s (top_of z).production) u → option_eq eqb t (Some u) ≡ true →
    (v : Option (List Bracket)) → end_way (content_of (grammar a) (top_of z).production) (top_of z).place ≡ v →
    step a (meaning_of z) (ends (tag_in t)) ≡ turned a (meaning_of z).store (end_by (open_of (top_of z)) (inside_at z h o).around v)
own_turn {s} {a} i {z} h f o t {u} R own v e =
    end_turn a z (inside_at z h o) t true (same_as t u (tag_of (grammar a) (top_of z).production) true (R.is ∙ sym (tag_is i (top_below i h f o))) own)
    ∙ ap (λ (y : Option (List Bracket)). turned a (meaning_of z).store (end_by (open_of (top_of z)) (inside_at z h o).around y)) e

-- the string of an end tag, and what its visits come to
record Closes (a : Sheet) (z : State) (os : List Open) (t : Answered ℕ) (p : Pen) (b : Answered ActedSeen) (mid : List ℕ) : Type 0 where
  string : List Bracket
  asks : step a (meaning_of z) (ends (tag_in t)) ≡ acted (outer os) (acts a (bracket_acts (top_of z).production string ++ end_tag (top_of z).production ∷ []) (meaning_of z).store)
  comes : Comes (acts a (bracket_acts (top_of z).production string) (meaning_of z).store) (meaning_of z).control z p b mid
  left : (y : ActedSeen) (m : Store) → acts a (bracket_acts (top_of z).production string) (meaning_of z).store ≡ some m → Done (meaning_of z).control m z p y mid → 0 < (top_of y.state).«open»

closes : {s : List ℕ} {a : Sheet} (i : IsSheet s a) {z : State} (h : Shaped z) (f : RunFits a (meaning_of z)) (o : 0 < z.depth) (t : Answered ℕ) {u : ℕ} → NumberRead 256 (tag_number_of s (top_of z).production) u → option_eq eqb t (Some u) ≡ true →
    {n : ℕ} {l : List ℕ} → EndWayIs s (top_of z).production (top_of z).place (Some n) l → {p : Pen} {b : Answered ActedSeen} {mid : List ℕ} → BracketsAs s (top_of z).production (take n l) z p b mid →
    Closes a z (inside_at z h o).around t p b mid
closes {s} {a} i {z} h f o t R own W {p} {b} {mid} B =
    let j = inside_at z h o in
    let v = line_found (end_is i (top_below i h f o) W) in
    let T = top_ends i h f o v.0 v.1 in
    record {
      string = v.0;
      asks = own_turn i h f o t R own (some v.0) v.1;
      comes = B.right a i v.0 (v.2.bytes_are (omega (arith, W.few, W.room))) h (open_of (top_of z)) j.around j.stands T.0 [] T.1 (sym (sets_are z h o) ∙ T.2);
      left = λ y m e D. one_left a (top_of z).production v.0 z p y mid m h j T.0 T.1 T.2 e D;
    }

module _ {s : List ℕ} {z : State} {p : Pen} {r : SteppedSeen} {d : List ℕ} (t : Answered ℕ) where
  pub end_before : r ≡ refused_at 22 z p → d ≡ p.lent → z.depth ≡ 0 → z.rooted ≡ false → SteppedAs s (ends (tag_in t)) z p r d
  end_before e k o b = refusal 22 e k (λ a i h f. at_step a (meaning_of z) before (no_root z o b) (ends (tag_in t)))

  module _ (o : 0 < z.depth) {u : ℕ} (R : NumberRead 256 (tag_number_of s (top_of z).production) u) where
    pub end_other : r ≡ refused_at 22 z p → d ≡ p.lent → option_eq eqb t (Some u) ≡ false → SteppedAs s (ends (tag_in t)) z p r d
    end_other e k n =
        refusal 22 e k (λ a i h f.
        end_turn a z (inside_at z h o) t false (same_as t u (tag_of (grammar a) (top_of z).production) false (R.is ∙ sym (tag_is i (top_below i h f o))) n))

    module _ (own : option_eq eqb t (Some u) ≡ true) {l : List ℕ} where
      pub end_no_way : EndWayIs s (top_of z).production (top_of z).place None l → r ≡ refused_at 23 z p → d ≡ p.lent → SteppedAs s (ends (tag_in t)) z p r d
      end_no_way W e k = refusal 23 e k (λ a i h f. own_turn i h f o t R own none (line_missing (end_is i (top_below i h f o) W)))

      module _ {n : ℕ} (W : EndWayIs s (top_of z).production (top_of z).place (Some n) l) {mid : List ℕ} where
        pub end_rejected : BracketsAs s (top_of z).production (take n l) z p None mid → d ≡ mid → r ≡ refused_at 25 z p → SteppedAs s (ends (tag_in t)) z p r d
        end_rejected B same e =
            refusal_behind 25 e (λ k. same ∙ B.dry k) (λ a i h f.
            let K = closes i h f o t R own W B in
            rejected_first a z (bracket_acts (top_of z).production K.string) (end_tag (top_of z).production) (outer (inside_at z h o).around) (ends (tag_in t)) K.asks K.comes)

        pub end_done : {b : ActedSeen} → BracketsAs s (top_of z).production (take n l) z p (Some b) mid → (e : Answered ActedSeen) → LeavesAs s (top_of z).production b.state (on_pen p mid b.at) e d → r ≡ answering z p.at e
            → SteppedAs s (ends (tag_in t)) z p r d
        end_done {b} B e E k =
            went_as e (most_brackets * visit_reach + visit_reach) event_visits (omega arith) (omega arith)
            (went_on b e (record { reach = B.reach; count = B.count; dry = B.dry }) (record { reach = E.reach; count = E.count; dry = E.dry })) k right
          where
            right : Owed s (ends (tag_in t)) z p (answering z p.at e) d
            right a i h f =
                let j = inside_at z h o in
                let K = closes i h f o t R own W B in
                let q : ℕ = (top_of z).production in
                let X = done_is (acts a (bracket_acts q K.string) (meaning_of z).store) (meaning_of z).control z p b mid K.comes in
                both_done a z (bracket_acts q K.string) (end_tag q) (outer j.around) (ends (tag_in t)) K.asks p b mid (meaning_of z).control K.comes e d
                (λ m D. E.right a i D.shaped (open_of (top_of z)) j.around (ap (λ (y : Standing). y.control) D.means ∙ j.stands) (K.left b X.0 X.1 X.2))
