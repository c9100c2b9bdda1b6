-- A step of the code is a step of the meaning, and another may follow it: by what the code came to.
-- Assumes nothing.
use mathlib.Core.Path.{◌≡◌, refl, sym, ap, ap₂, subst, ◌∙◌}
use mathlib.Core.Bool.{Bool, true, false, not, cond, ◌&&◌}
use mathlib.Core.List.{List, [], ◌∷◌}
use mathlib.Core.Option.{Option, some}
use Prim.Native.Nat.{ℕ, zero, suc, ◌+◌, ◌-◌, ◌*◌, ◌/◌, ◌≤◌, ◌<◌}
use native.Mathlib.Omega.{arith}
use lib.Dec.{eqb}
use lib.ListN.{length, take, drop, length-drop}
use borrow.Author.Tests.{eqb-true}
use Rattle.tokens.specs.declared.Event.{Event}
use Rattle.tokens.specs.declared.Answer.{Answer}
use Rattle.tokens.specs.declared.Answer.TheVariants.{Token as Read}
use Rattle.tokens.specs.Stream.{ReadAs}
use Rattle.sheet.specs.Sheet.{Sheet, IsSheet}
use Rattle.runs.specs.Machine.{Control, Configuration}
use Rattle.runs.specs.Spells.{Token}
use Rattle.calls.specs.Names.{token_of}
use Rattle.calls.specs.Limits.{Taking, one_token}
use Rattle.calls.specs.Call.{room_left, number_at}
use Rattle.salvage.specs.Shape.{RecordTags}
use Rattle.salvage.specs.Salvage.{starts_with, begins_record}
use Rattle.salvage.specs.Resumption.{record_start, root_end}
use Rattle.salvaging.specs.Resumed.{ResumedIs}
use Rattle.state.specs.Meaning.{meaning_of}
use Rattle.live.specs.declared.Live.{Live}
use Rattle.live.specs.Live.{full}
use Rattle.rescue.specs.Held.{Mode, between, inside, skipping, waiting_in, control_of, reads_tokens}
use Rattle.rescue.specs.Step.{Setting, Step, stop, stay, in_stream, breaks_at, record_token, other_token, token_step, number_step, reported, skip_to, skip_step, StepIs, at_token, at_none, at_bytes}
use Rattle.rescue.specs.Call.{setting}
use Rattle.rescue.proofs.Whole.{comes_to}
use Rattle.rescued.specs.Bytes.{entry_width}
use Rattle.shapes.specs.Marks.{TagThere}
use Rattle.shapes.proofs.Marking.{tags_there}
use Rattle.turns.specs.declared.Stand.{Stand}
use Rattle.turns.specs.declared.Place.{Place}
use Rattle.turns.specs.declared.Given.{Given}
use Rattle.turns.specs.declared.Turn.{Turn}
use Rattle.turns.specs.Stands.{mode_by, mode_of, RunStands, HoldsIn, holds_between, holds_inside, holds_skipping, Grounds, ReadyOn}
use Rattle.turns.specs.Turned.{BeginsAs, NoTokenAs, stands, breaks as breaks_it, TurnedAs, skips, no_token, in_record, begins, other}
use Rattle.strides.specs.Strides.{Strode}
use Rattle.strides.proofs.Basics.{alone, stands_alone}
use Rattle.strides.proofs.Broken.{broken}
use Rattle.strides.proofs.Records.{root_only_lem, record_token_lem}
use Rattle.strides.proofs.Others.{numbered, stays_at, other_token_lem, skipped}

-- what holds in the mode that a stand has
in_record_holds : {a : Sheet} {past m : ℕ} {t : Stand} → HoldsIn a past t m → m ≡ 1 → (t.first < past) × (t.before.depth ≡ 1) × RunStands a t.before []
in_record_holds (holds_between e) q = absurd (omega arith)
in_record_holds (holds_inside f o S) q = (f, o, S)
in_record_holds (holds_skipping d e) q = absurd (omega arith)

is_between : {a : Sheet} {past m : ℕ} {t : Stand} → HoldsIn a past t m → (m ≡ 2 → ⊥) → (m ≡ 1 → ⊥) → (m ≡ 0) × (t.waits ≡ 0)
is_between (holds_between e) p q = (refl, e)
is_between (holds_inside f o S) p q = absurd (q refl)
is_between (holds_skipping d e) p q = absurd (p refl)

is_inside : {a : Sheet} {past m : ℕ} {t : Stand} → HoldsIn a past t m → (m ≡ 2 → ⊥) → (m ≡ 0 → ⊥) → m ≡ 1
is_inside (holds_between e) p q = absurd (q refl)
is_inside (holds_inside f o S) p q = refl
is_inside (holds_skipping d e) p q = absurd (p refl)

both_true : (b c : Bool) → true ≡ (b && c) → b ≡ true
both_true true c e = refl
both_true false c e = sym e

module _ (c : Setting) (at room next : ℕ) (k : Token) where
  in_it : (i : Mode) (Z Y : Configuration) (f : ℕ) (v : List ℕ) → i ≡ inside Z Y f v → token_step c at room next k i ≡ record_token c at room i Z f v next (one_token c.sheet Y (room_left c.area v) k)
  in_it i Z Y f v e = subst (λ (j : Mode). token_step c at room next k j ≡ record_token c at room j Z f v next (one_token c.sheet Y (room_left c.area v) k)) (sym e) refl

  begins_it : (i : Mode) (Y : Configuration) → i ≡ between Y → begins_record c.tags Y.control k ≡ true →
      token_step c at room next k i ≡ record_token c at room i Y (in_stream c at) [] next (one_token c.sheet Y (room_left c.area []) k)
  begins_it i Y e h =
      subst (λ (j : Mode). token_step c at room next k j ≡ record_token c at room j Y (in_stream c at) [] next (one_token c.sheet Y (room_left c.area []) k)) (sym e)
      (ap (λ (b : Bool). cond b (record_token c at room (between Y) Y (in_stream c at) [] next (one_token c.sheet Y (room_left c.area []) k)) (other_token at (between Y) next (one_token c.sheet Y room k))) h)

  beside_it : (i : Mode) (Y : Configuration) → i ≡ between Y → begins_record c.tags Y.control k ≡ false → token_step c at room next k i ≡ other_token at i next (one_token c.sheet Y room k)
  beside_it i Y e h =
      subst (λ (j : Mode). token_step c at room next k j ≡ other_token at j next (one_token c.sheet Y room k)) (sym e)
      (ap (λ (b : Bool). cond b (record_token c at room (between Y) Y (in_stream c at) [] next (one_token c.sheet Y (room_left c.area []) k)) (other_token at (between Y) next (one_token c.sheet Y room k))) h)

module _ {s : List ℕ} {g : Given} (G : Grounds s g.tag) {part : List ℕ} {p : Place} {t : Stand} {b out area : List ℕ} (rep : List ℕ) (R : ReadyOn G.sheet g part p t b out area)
    (T : p.told ≤ length rep / entry_width) where
  abbrev a : Sheet
  a = G.sheet

  abbrev x : RecordTags
  x = G.tags

  abbrev c : Setting
  c = setting a x part (not g.ended) g.base (length area)

  abbrev room : ℕ
  room = length out - p.put

  abbrev spare : ℕ
  spare = length rep / entry_width - p.told

  abbrev m : Mode
  m = mode_of t b area

  abbrev Y : Configuration
  Y = meaning_of (full t.live b)

  small_tag : g.tag < 256
  small_tag = omega (arith, (tags_there s a G.is_sheet x G.of_shape).record_there.few, G.record_is)

  -- the code's test is the meaning's
  tests_so : (e : Event) (d : Bool) → BeginsAs s part e g.tag t.live.depth d → begins_record x Y.control (token_of a part e) ≡ d
  tests_so e d B =
      ap₂ (λ (u : Bool) (i : ℕ). u && starts_with i (token_of a part e)) (root_only_lem (full t.live b) R.stands.shaped) G.record_is ∙ sym (B.is a G.is_sheet small_tag)

  reads : (t.mode ≡ 2 → ⊥) → reads_tokens m ≡ true
  reads h = by t.mode h R.holds
    where
      by : (i : ℕ) → (i ≡ 2 → ⊥) → HoldsIn a (g.base + p.at) t i → reads_tokens (mode_by i t b area) ≡ true
      by i h (holds_between e) = refl
      by i h (holds_inside f o S) = refl
      by i h (holds_skipping d e) = absurd (h refl)

  mode_0 : t.mode ≡ 0 → m ≡ between Y
  mode_0 e = ap (λ (i : ℕ). mode_by i t b area) e

  mode_1 : t.mode ≡ 1 → m ≡ inside (meaning_of (full t.before [])) Y t.first (take t.waits area)
  mode_1 e = ap (λ (i : ℕ). mode_by i t b area) e

  control_is : (t.mode ≡ 2 → ⊥) → control_of m ≡ Y.control
  control_is h = by t.mode h R.holds
    where
      by : (i : ℕ) → (i ≡ 2 → ⊥) → HoldsIn a (g.base + p.at) t i → control_of (mode_by i t b area) ≡ Y.control
      by i h (holds_between e) = refl
      by i h (holds_inside f o S) = refl
      by i h (holds_skipping d e) = absurd (h refl)

  read_here : (e : Event) (next : ℕ) → (t.mode ≡ 2 → ⊥) → ReadAs (not g.ended) part p.at (Read e (record { at = next })) → (st : Step) → token_step c p.at room next (token_of a part e) m ≡ st →
      StepIs c p.at room spare m (reported spare p.at m st)
  read_here e next h means st q = subst (λ (i : Step). StepIs c p.at room spare m (reported spare p.at m i)) q (at_token e next (reads h) means)

  module _ (start end : List ℕ) (is_start : start ≡ record_start a x) (is_end : end ≡ root_end a x) where
    not_two : t.mode ≡ 1 → t.mode ≡ 2 → ⊥
    not_two e f = omega arith

    none_here : (n : ℕ) (rep' : List ℕ) (r : Turn) → (t.mode ≡ 2 → ⊥) → StepIs c p.at room spare m (reported spare p.at m (number_step c p.at n m)) →
        NoTokenAs t n g.base (length part) p rep rep' r → Strode a x g part p t b b out out area area rep rep' r
    none_here n rep' r h I (stands e re qe) =
        let k : number_step c p.at n m ≡ stay n p.at m = subst (λ (j : Mode). number_step c p.at n j ≡ stay n p.at j) (sym (mode_0 e)) refl in
        stays_at G.is_sheet x rep R T n p.at b out area rep' r (omega arith) R.within refl refl refl refl qe
        (comes_to c p.at room spare m p.at (number_step c p.at n m) n p.at m [] (length (waiting_in m)) (omega arith) k I) re
    none_here n rep' r h I (breaks_it d B) =
        let e = is_inside R.holds h d in
        let H = in_record_holds R.holds e in
        let Z : Configuration = meaning_of (full t.before []) in
        let k : number_step c p.at n m ≡ breaks_at c p.at m Z t.first n = subst (λ (j : Mode). number_step c p.at n j ≡ breaks_at c p.at j Z t.first n) (sym (mode_1 e)) refl in
        broken x rep R T t.before H.1 H.2 t.first n (λ l. e) (λ l. absurd (omega (arith, H.0)))
        (subst (λ (i : Step). StepIs c p.at room spare m (reported spare p.at m i)) k I) b out area refl refl refl refl rep' r B

    pub strode : (b' out' area' rep' : List ℕ) (r : Turn) → TurnedAs s g part start end p t b b' out out' area area' rep rep' r → Strode a x g part p t b b' out out' area area' rep rep' r
    strode b' out' area' rep' r (skips two K be oe ae) =
        let h = subst (λ (u : List ℕ). ResumedIs u (root_end a x) part p.at K.found) is_start (subst (λ (u : List ℕ). ResumedIs start u part p.at K.found) is_end K.is) in
        let I = at_bytes Y t.first t.number K.found (ap (λ (i : ℕ). mode_by i t b area) two) h in
        let z = skipped G.is_sheet x rep R T two rep' r (record_start a x) (root_end a x) K.found h I K.ends in
        subst (λ (i : List ℕ). Strode a x g part p t b i out out' area area' rep rep' r) (sym be)
        (subst (λ (i : List ℕ). Strode a x g part p t b b out i area area' rep rep' r) (sym oe) (subst (λ (i : List ℕ). Strode a x g part p t b b out out area i rep rep' r) (sym ae) z))
    strode b' out' area' rep' r (no_token h y n w means N K be oe ae) =
        let k = numbered (not g.ended) part p.at (length part - p.at) Y.control y n means w (N R.stands.shaped) in
        let l : length (drop p.at part) ≡ length part - p.at = length-drop p.at part in
        let k₁ : number_at (not g.ended) (length (drop p.at part)) (control_of m) y ≡ some n =
        ap₂ (λ (i : ℕ) (j : Control). number_at (not g.ended) i j y) l (control_is h) ∙ k in
        let z = none_here n rep' r h (at_none y n (reads h) means k₁) K in
        subst (λ (i : List ℕ). Strode a x g part p t b i out out' area area' rep rep' r) (sym be)
        (subst (λ (i : List ℕ). Strode a x g part p t b b out i area area' rep rep' r) (sym oe) (subst (λ (i : List ℕ). Strode a x g part p t b b out out area i rep rep' r) (sym ae) z))
    strode b' out' area' rep' r (in_record e₁ e next means K) =
        let H = in_record_holds R.holds e₁ in
        let Z : Configuration = meaning_of (full t.before []) in
        record_token_lem G.is_sheet x rep R T t.before H.1 H.2 t.first (λ l. e₁) (omega (arith, H.0)) e next means (take t.waits area) refl
        (read_here e next (not_two e₁) means (record_token c p.at room m Z t.first (take t.waits area) next (one_token a Y (room_left (length area) (take t.waits area)) (token_of a part e)))
        (in_it c p.at room next (token_of a part e) m Z Y t.first (take t.waits area) (mode_1 e₁))) b' out' area' rep' r K
    strode b' out' area' rep' r (begins h₂ h₁ e next means B K) =
        let O = is_between R.holds h₂ h₁ in
        let one : t.live.depth ≡ 1 = eqb-true t.live.depth 1 (both_true (eqb t.live.depth 1) (starts_with g.tag (token_of a part e)) (B.is a G.is_sheet small_tag)) in
        let same : Y ≡ meaning_of (full t.live []) = ap meaning_of (alone t.live [] b (omega arith)) in
        let none_waits : [] ≡ take t.waits area = ap (λ (i : ℕ). take i area) (sym O.1) in
        let I =
        read_here e next h₂ means (record_token c p.at room m Y (g.base + p.at) [] next (one_token a Y (room_left (length area) []) (token_of a part e)))
        (begins_it c p.at room next (token_of a part e) m Y (mode_0 O.0) (tests_so e true B)) in
        record_token_lem G.is_sheet x rep R T t.live one (stands_alone t.live b [] (omega arith) R.stands) (g.base + p.at) (λ l. absurd (omega arith)) (omega arith) e next means [] none_waits
        (subst (λ (i : Configuration). StepIs c p.at room spare m (reported spare p.at m (record_token c p.at room m i (g.base + p.at) [] next (one_token a Y (room_left (length area) []) (token_of a part e))))) same I)
        b' out' area' rep' r K
    strode b' out' area' rep' r (other h₂ h₁ e next means B K ae qe) =
        let O = is_between R.holds h₂ h₁ in
        other_token_lem G.is_sheet x rep R T e next means
        (read_here e next h₂ means (other_token p.at m next (one_token a Y room (token_of a part e))) (beside_it c p.at room next (token_of a part e) m Y (mode_0 O.0) (tests_so e false B))) b' out' area' rep' ae qe r K
