-- One call on a whole stream that is declared ended, from a fresh state, is the salvage run over that stream: each way that the run goes on between records is some steps of the call.
-- Assumes nothing.
use mathlib.Core.Path.{◌≡◌, refl, sym, ap, ap₂, ◌∙◌, subst}
use mathlib.Core.Logic.{inl, inr}
use mathlib.Core.Bool.{Bool, true, false, cond, ◌||◌}
use mathlib.Core.List.{List, [], ◌∷◌, ◌++◌}
use Prim.Native.Nat.{ℕ, suc, ◌+◌, ◌-◌, ◌≤◌, ◌<◌}
use native.Mathlib.Omega.{arith}
use lib.Dec.{ltb}
use lib.ListN.{length, drop, take, length-take, length-drop, take-append-drop}
use lib.Seq.{drop-drop}
use borrow.Author.Tests.{le-leb, lt-leb, ltb-true, ltb-false, ne_eqb}
use Rattle.expressions.specs.Grammar.{only_if}
use Rattle.tokens.specs.declared.Event.{Event}
use Rattle.tokens.specs.declared.Answer.TheVariants.{Token}
use Rattle.tokens.specs.declared.Word.TheVariants.{Begun}
use Rattle.tokens.specs.Stream.{ReadAs}
use Rattle.sheet.specs.Sheet.{Sheet}
use Rattle.runs.specs.Fits.{NamesFit}
use Rattle.runs.specs.Machine.{Configuration}
use Rattle.calls.specs.Names.{token_of}
use Rattle.calls.specs.Limits.{Taking, taken, refuses, no_room, one_token}
use Rattle.calls.specs.Held.{leaves_open}
use Rattle.calls.specs.Call.{stopped_at, room_left, Stop, stops, full, no_token}
use Rattle.calls.proofs.Read.{read_moves}
use Rattle.salvage.specs.Shape.{RecordTags}
use Rattle.salvage.specs.Resumption.{record_start, root_end, MayResume, ResumesAt, NeverResumes}
use Rattle.salvage.specs.Salvage.{root_only, begins_record, RecordAt, NoRecordAt, whole, broken, InRecord, goes_on, ends, breaks, LostStretch, lost, Salvage, without_report, behind_output, reporting, ends_lost, over_inside, damaged, Salvages, passes, stands, keeps, full as full_room, waits, drops, loses, cut_off, over, Salvaged}
use Rattle.salvage.specs.Cut.{RisesIn}
use Rattle.salvage.proofs.One.{read_same, damage}
use Rattle.salvage.proofs.Follows.{record_moves}
use Rattle.salvage.proofs.Main.{resumes_in, report_rises}
use Rattle.salvage.proofs.Some.{some_salvage}
use Rattle.salvage.proofs.Before.{begins_none}
use Rattle.salvage.proofs.NeverSent.{record_start_once, root_end_once, may_open}
use Rattle.salvaging.specs.declared.Resumed.{Resumed}
use Rattle.salvaging.specs.declared.Resumed.TheVariants.{Here, Waits, Nowhere}
use Rattle.salvaging.specs.Resumed.{EitherIs, ApartUpTo, ResumedIs}
use Rattle.rescue.specs.Held.{Mode, between, inside, skipping, run_of, waiting_in, fresh_salvage, Rescued, as_salvage}
use Rattle.rescue.specs.Step.{Setting, Step, on, stop, stay, in_stream, byte_before, last_byte, past_first, drops_at, closes_at, breaks_at, whole_at, record_token, other_token, token_step, number_step, skip_step, skip_to, reported, StepIs, at_token, at_none, at_bytes}
use Rattle.rescue.specs.Call.{halted, after_step, spare_left, Rescues, goes, halts, setting}
use Rattle.rescue.specs.Promises.{InOneCall, IsSalvage, CallSalvages}
use Rattle.rescue.proofs.One.{no_number, one_rescue}
use Rattle.rescue.proofs.Resumed.{apart_whole, whole_begun, some_resumed}

pub reports : (spare at : ℕ) (m : Mode) (next : ℕ) (m' : Mode) (w : List ℕ) (ds : List LostStretch) (k : ℕ) → length ds ≤ spare → reported spare at m (on next m' w ds k) ≡ on next m' w ds k
reports spare at m next m' w ds k h = ap (λ (b : Bool). cond b (on next m' w ds k) (stay 17 at m)) (le-leb (length ds) spare h)

pub reports_end : (spare at : ℕ) (m : Mode) (n to : ℕ) (m' : Mode) (ds : List LostStretch) (k : ℕ) → length ds ≤ spare → reported spare at m (stop n to m' ds k) ≡ stop n to m' ds k
reports_end spare at m n to m' ds k h = ap (λ (b : Bool). cond b (stop n to m' ds k) (stay 17 at m)) (le-leb (length ds) spare h)

module _ (c : Setting) (at room spare : ℕ) (m : Mode) where
  -- a step as what it comes to, where the report has room
  pub comes_on : (p : ℕ) (t : Step) (next : ℕ) (m' : Mode) (w : List ℕ) (ds : List LostStretch) (k : ℕ) → length ds ≤ spare → t ≡ on next m' w ds k →
      StepIs c at room spare m (reported spare p m t) → StepIs c at room spare m (on next m' w ds k)
  comes_on p t next m' w ds k h e i = subst (StepIs c at room spare m) (ap (reported spare p m) e ∙ reports spare p m next m' w ds k h) i

  pub comes_to : (p : ℕ) (t : Step) (n to : ℕ) (m' : Mode) (ds : List LostStretch) (k : ℕ) → length ds ≤ spare → t ≡ stop n to m' ds k → StepIs c at room spare m (reported spare p m t) →
      StepIs c at room spare m (stop n to m' ds k)
  comes_to p t n to m' ds k h e i = subst (StepIs c at room spare m) (ap (reported spare p m) e ∙ reports_end spare p m n to m' ds k h) i

-- what a number inside a record makes of it
over_closes : (n : ℕ) → 18 ≤ n → leaves_open n ≡ false
over_closes n h = ap₂ (λ (b b' : Bool). b || b') (ne_eqb n 16 (λ e. omega arith)) (ne_eqb n 17 (λ e. omega arith))

module _ (c : Setting) (at : ℕ) (m : Mode) (z : Configuration) (f n : ℕ) where
  pub damaged_goes : damaged n ≡ true → breaks_at c at m z f n ≡ drops_at c at m z f n
  damaged_goes h =
      let d = damage n h in
      ap (λ (b : Bool). cond b (stay n at m) (cond (damaged n) (drops_at c at m z f n) (closes_at c at m z f n))) (over_closes n (omega (arith, d.0)))
      ∙ ap (λ (b : Bool). cond b (drops_at c at m z f n) (closes_at c at m z f n)) h

module _ (a : Sheet) (x : RecordTags) (s : List ℕ) (area : ℕ) where
  abbrev c : Setting
  c = setting a x s false 0 area

  -- the record that began at f, where the run was in z, is in y, and v waits: at its first token the mode is the one before it
  data InMode (at : ℕ) : (z y : Configuration) (f : ℕ) (v : List ℕ) → Mode → Type 0 where
    at_first : {z : Configuration} {f : ℕ} → in_stream c at ≡ f → RecordAt a x s at z → InMode at z z f [] (between z)
    later : {z y : Configuration} {f : ℕ} {v : List ℕ} → f < at → InMode at z y f v (inside z y f v)

  mode_run : {at f : ℕ} {z y : Configuration} {v : List ℕ} {m : Mode} → InMode at z y f v m → run_of m ≡ y
  mode_run (at_first g h) = refl
  mode_run (later l) = refl

  mode_from : {at f : ℕ} {z y : Configuration} {v : List ℕ} {m : Mode} → InMode at z y f v m → f ≤ at
  mode_from (at_first g h) = omega (arith, g)
  mode_from (later l) = omega arith

  module _ (at room spare : ℕ) where
    -- a token of the record is such a step
    record_step : {f : ℕ} {z y : Configuration} {v : List ℕ} {m : Mode} → InMode at z y f v m → (e : Event) (next : ℕ) (u : Taking) → ReadAs false s at (Token e (record { at = next })) →
        one_token a y (room_left area v) (token_of a s e) ≡ u → StepIs c at room spare m (reported spare at m (record_token c at room m z f v next u))
    record_step (at_first {z} {f} g h) e next u r t =
        subst (λ (k : Step). StepIs c at room spare (between z) (reported spare at (between z) k))
        (ap (λ (b : Bool). cond b (record_token c at room (between z) z (in_stream c at) [] next (one_token a z (room_left area []) (token_of a s e))) (other_token at (between z) next (one_token a z room (token_of a s e))))
        (ap (λ (k : Event). begins_record x z.control (token_of a s k)) (read_same a s false at room z e h.event next h.next r h.reads).0 ∙ h.begins)
        ∙ ap₂ (λ (j : ℕ) (k : Taking). record_token c at room (between z) z j [] next k) g t)
        (at_token e next refl r)
    record_step (later {z} {y} {f} {v} l) e next u r t =
        subst (λ (k : Taking). StepIs c at room spare (inside z y f v) (reported spare at (inside z y f v) (record_token c at room (inside z y f v) z f v next k))) t (at_token e next refl r)

    record_stop : {f : ℕ} {z y : Configuration} {v : List ℕ} {m : Mode} {n : ℕ} → InMode at z y f v m → Stop a s false at (room_left area v) y n →
        StepIs c at room spare m (reported spare at m (breaks_at c at m z f n))
    record_stop i (stops e next n r t) = record_step i e next (refuses n) r t
    record_stop i (full e next r t) = record_step i e next no_room r t
    record_stop (at_first {z} g h) (no_token y n r q) = absurd (no_number c at (between z) h.event h.next y n h.reads r q)
    record_stop (later l) (no_token y n r q) = at_none y n refl r q

  -- a call that answers what the salvage run does
  abbrev Answers : (at room spare : ℕ) → Mode → Salvage → Type 0
  Answers at room spare m q = (r : Rescued) × Rescues c at room spare m r × (as_salvage r ≡ q)

  -- one step further in the record
  one_further : (at room spare next : ℕ) (m m' : Mode) (k : ℕ) (q : Salvage) → StepIs c at room spare m (on next m' [] [] k) → Answers next room spare m' q → Answers at room spare m q
  one_further at room spare next m m' k q i (r, d, e) = (
    after_step [] [] k r,
    goes next m' [] [] k i (subst (λ (j : ℕ). Rescues c next j (spare_left spare []) m' r) (omega arith) (subst (λ (j : ℕ). Rescues c next room j m' r) (omega arith) d)),
    e,
  )

  -- a token behind which the record goes on
  goes_in : (at room spare : ℕ) {f : ℕ} {z y : Configuration} {v : List ℕ} {m : Mode} → InMode at z y f v m → (e : Event) (next : ℕ) (y' : Configuration) (u : List ℕ) →
      ReadAs false s at (Token e (record { at = next })) → one_token a y (room_left area v) (token_of a s e) ≡ taken y' u → root_only y'.control ≡ false →
      StepIs c at room spare m (on next (inside z y' f (v ++ u)) [] [] (length (v ++ u)))
  goes_in at room spare {f} {z} {y} {v} {m} i e next y' u r t h =
      comes_on c at room spare m at (record_token c at room m z f v next (taken y' u)) next (inside z y' f (v ++ u)) [] [] (length (v ++ u)) (omega arith)
      (ap (λ (b : Bool). cond b (whole_at at room m next y' (v ++ u)) (on next (inside z y' f (v ++ u)) [] [] (length (v ++ u)))) h) (record_step at room spare i e next (taken y' u) r t)

  -- a record that is whole, behind which the call goes on
  kept : {at : ℕ} {y : Configuration} {v : List ℕ} (room spare to next : ℕ) (y₁ z' : Configuration) (w : List ℕ) (q : Salvage) → InRecord a s area at y v (whole to y₁ next z' w) →
      {f : ℕ} {z : Configuration} {m : Mode} → InMode at z y f v m → at ≤ length s → length w ≤ room → Answers next (room_left room w) spare (between z') q →
      Answers at room spare m (behind_output w q)
  kept room spare to next y₁ z' w q (goes_on {at} {y} {v} e j y' u r t h d) {f} {z} {m} i l g k =
      let n = read_moves false s at e j r l in
      one_further at room spare j m (inside z y' f (v ++ u)) (length (v ++ u)) (behind_output w q)
      (goes_in at room spare i e j y' u r t h)
      (kept room spare to next y₁ z' w q d (later (let b = mode_from i in omega (arith, n.0, b))) n.1 g k)
  kept room spare to next y₁ z' w q (ends {at} {y} {v} e j z₁ u r t h) {f} {z} {m} i l g (r₁, d, p) = (
    after_step (v ++ u) [] (length (v ++ u)) r₁,
    goes next (between z') (v ++ u) [] (length (v ++ u))
        (comes_on c at room spare m at (record_token c at room m z f v next (taken z' u)) next (between z') (v ++ u) [] (length (v ++ u)) (omega arith)
        (ap (λ (b : Bool). cond b (whole_at at room m next z' (v ++ u)) (on next (inside z z' f (v ++ u)) [] [] (length (v ++ u)))) h
        ∙ ap (λ (b : Bool). cond b (on next (between z') (v ++ u) [] (length (v ++ u))) (stop 17 at m [] (length (v ++ u)))) (le-leb (length (v ++ u)) room g))
        (record_step at room spare i e next (taken z' u) r t))
        (subst (λ (j : ℕ). Rescues c next (room_left room (v ++ u)) j (between z') r₁) (omega arith) d),
    ap (behind_output (v ++ u)) p,
  )

  -- or the output has no room for it
  no_room_for : {at : ℕ} {y : Configuration} {v : List ℕ} (room spare to next : ℕ) (y₁ z' : Configuration) (w : List ℕ) → InRecord a s area at y v (whole to y₁ next z' w) →
      {f : ℕ} {z : Configuration} {m : Mode} → InMode at z y f v m → at ≤ length s → room < length w → Answers at room spare m (without_report (stopped_at 17 to y₁))
  no_room_for room spare to next y₁ z' w (goes_on {at} {y} {v} e j y' u r t h d) {f} {z} {m} i l g =
      let n = read_moves false s at e j r l in
      one_further at room spare j m (inside z y' f (v ++ u)) (length (v ++ u)) (without_report (stopped_at 17 to y₁))
      (goes_in at room spare i e j y' u r t h)
      (no_room_for room spare to next y₁ z' w d (later (let b = mode_from i in omega (arith, n.0, b))) n.1 g)
  no_room_for room spare to next y₁ z' w (ends {at} {y} {v} e j z₁ u r t h) {f} {z} {m} i l g = (
    halted c 17 at m [] (length (v ++ u)),
    halts 17 at m [] (length (v ++ u))
        (comes_to c at room spare m at (record_token c at room m z f v next (taken z' u)) 17 at m [] (length (v ++ u)) (omega arith)
        (ap (λ (b : Bool). cond b (whole_at at room m next z' (v ++ u)) (on next (inside z z' f (v ++ u)) [] [] (length (v ++ u)))) h
        ∙ ap (λ (b : Bool). cond b (on next (between z') (v ++ u) [] (length (v ++ u))) (stop 17 at m [] (length (v ++ u)))) (lt-leb (length (v ++ u)) room g))
        (record_step at room spare i e next (taken z' u) r t)),
    ap (λ (y : Configuration). without_report (stopped_at 17 at y)) (mode_run i),
  )

  -- a record that stops with n: the call comes to where it does
  broke : {at : ℕ} {y : Configuration} {v : List ℕ} (room spare n to : ℕ) (y₁ : Configuration) (q : Salvage) → InRecord a s area at y v (broken n to y₁) →
      {f : ℕ} {z : Configuration} {m : Mode} → InMode at z y f v m → at ≤ length s →
      ((v₁ : List ℕ) (m₁ : Mode) → InMode to z y₁ f v₁ m₁ → StepIs c to room spare m₁ (reported spare to m₁ (breaks_at c to m₁ z f n)) → Answers to room spare m₁ q) → Answers at room spare m q
  broke room spare n to y₁ q (goes_on {at} {y} {v} e j y' u r t h d) {f} {z} {m} i l on_from =
      let k = read_moves false s at e j r l in
      one_further at room spare j m (inside z y' f (v ++ u)) (length (v ++ u)) q
      (goes_in at room spare i e j y' u r t h)
      (broke room spare n to y₁ q d (later (let b = mode_from i in omega (arith, k.0, b))) k.1 on_from)
  broke room spare n to y₁ q (breaks {at} {y} {v} k st) {f} {z} {m} i l on_from = on_from v m i (record_stop at room spare i st)

  -- a token outside a record
  other_by : (at room : ℕ) (z : Configuration) (e : Event) (next : ℕ) (u : Taking) → begins_record x z.control (token_of a s e) ≡ false → one_token a z room (token_of a s e) ≡ u →
      token_step c at room next (token_of a s e) (between z) ≡ other_token at (between z) next u
  other_by at room z e next u h t =
      ap (λ (b : Bool). cond b (record_token c at room (between z) z (in_stream c at) [] next (one_token a z (room_left area []) (token_of a s e))) (other_token at (between z) next (one_token a z room (token_of a s e)))) h
      ∙ ap (other_token at (between z) next) t

  other_token_lem : (at room : ℕ) (z : Configuration) (e : Event) (next : ℕ) (u : Taking) → NoRecordAt a x s at z → ReadAs false s at (Token e (record { at = next })) →
      one_token a z room (token_of a s e) ≡ u → token_step c at room next (token_of a s e) (between z) ≡ other_token at (between z) next u
  other_token_lem at room z e next u h r t = other_by at room z e next u (h e next r) t

  -- 30 inside a record
  abbrev over_entries : ℕ → ℕ → List LostStretch
  over_entries at n = only_if (ltb at n) (lost at (n - 1) 30)

  over_run : (at room spare to : ℕ) (y z : Configuration) → RecordAt a x s at z → InRecord a s area at z [] (broken 30 to y) → at ≤ length s → length (over_inside at to z).report ≤ spare →
      Answers at room spare (between z) (over_inside at to z)
  over_run at room spare to y z h i l g =
      broke room spare 30 to y (over_inside at to z) i (at_first {f = at} (omega arith) h) l (λ v m j st. (
        halted c 30 to (between z) (over_entries at (in_stream c to)) (length (waiting_in m)),
        halts 30 to (between z) (over_entries at (in_stream c to)) (length (waiting_in m))
            (comes_to c to room spare m to (breaks_at c to m z at 30) 30 to (between z) (over_entries at (in_stream c to)) (length (waiting_in m)) (subst (λ (n : ℕ). length (over_entries at n) ≤ spare) (omega arith) g) refl st),
        ap (λ (n : ℕ). record { answer = stopped_at 30 to z; report = over_entries at n }) (omega arith),
      ))

  module _ (fit : NamesFit a.names) where
    abbrev w : List ℕ
    w = record_start a x

    abbrev w' : List ℕ
    w' = root_end a x

    -- where one of the two is begun, none stands further on: each has `<` first and nowhere else
    begun_last : (i j : ℕ) → i < j → EitherIs w w' (drop i s) Begun → MayResume a x s j → ⊥
    begun_last i j l b h =
        let n = (resumes_in a x s j h).1 in
        let (r, e) = may_open a x fit (drop j s) h in
        let o : i + (j - i) ≡ j = omega (arith, l) in
        let d : drop i s ≡ take (j - i) (drop i s) ++ 60 ∷ r =
        sym (take-append-drop (j - i) (drop i s)) ∙ ap (λ (k : List ℕ). take (j - i) (drop i s) ++ k) (drop-drop (j - i) i s ∙ ap (λ (k : ℕ). drop k s) o ∙ e) in
        let p : 0 < length (take (j - i) (drop i s)) = omega (arith, length-take (j - i) (drop i s), length-drop i s) in
        by (take (j - i) (drop i s)) r p (subst (λ (k : List ℕ). EitherIs w w' k Begun) d b)
      where
        by : (k r : List ℕ) → 0 < length k → EitherIs w w' (k ++ 60 ∷ r) Begun → ⊥
        by k r p (inl u, o, o') = begins_none k r w (record_start_once a x fit) p u
        by k r p (inr u, o, o') = begins_none k r w' (root_end_once a x fit) p u

    -- from which place on bytes are passed over
    record From (f to from : ℕ) : Type 0 where
      past : (i : ℕ) → from ≤ i → (to ≤ i) × (f < i)
      not_past : (i : ℕ) → to ≤ i → f < i → from ≤ i

    past_first_lem : (f to : ℕ) → f ≤ to → From f to (past_first c f to)
    past_first_lem f to l = by (ltb f (in_stream c to)) refl
      where
        by : (b : Bool) → ltb f (in_stream c to) ≡ b → From f to (cond b to (suc to))
        by true e = let h = ltb-true f (in_stream c to) e in record { past = λ i k. (omega arith, omega (arith, h)); not_past = λ i k j. omega arith }
        by false e = let h = ltb-false f (in_stream c to) e in record { past = λ i k. (omega arith, omega arith); not_past = λ i k j. omega (arith, h) }

    module _ (f to from : ℕ) (k : From f to from) where
      -- the place where reading resumes is the one that is found
      skip_here : (t : ℕ) → ResumesAt a x s f to t → ResumedIs w w' s from (Here t)
      skip_here t q = by (some_resumed w w' s from).0 (some_resumed w w' s from).1
        where
          there : from ≤ t
          there = k.not_past t q.not_before q.past_start

          sooner : (i : ℕ) → from ≤ i → i < t → MayResume a x s i → ⊥
          sooner i l n = q.none_sooner i (k.past i l).0 (k.past i l).1 n

          passed : (i : ℕ) → ApartUpTo w w' s from i → t < i → ⊥
          passed i h n = apart_whole w w' (drop t s) (h t there n) q.stands

          here_by : (i : ℕ) → ResumedIs w w' s from (Here i) → (b : Bool) → ltb i t ≡ b → (d : Bool) → ltb t i ≡ d → ResumedIs w w' s from (Here t)
          here_by i (l, n, o, h) true e d g = absurd (sooner i l (ltb-true i t e) o)
          here_by i (l, n, o, h) false e true g = absurd (passed i h (ltb-true t i g))
          here_by i r false e false g =
              let u = ltb-false i t e in
              let v = ltb-false t i g in
              let e : i ≡ t = omega (arith, u, v) in
              subst (λ (j : ℕ). ResumedIs w w' s from (Here j)) e r

          waits_by : (i : ℕ) → ResumedIs w w' s from (Waits i) → (b : Bool) → ltb i t ≡ b → (d : Bool) → ltb t i ≡ d → ⊥
          waits_by i (l, n, o, h) true e d g = begun_last i t (ltb-true i t e) o q.stands
          waits_by i (l, n, o, h) false e true g = passed i h (ltb-true t i g)
          waits_by i (l, n, o, h) false e false g =
              let u = ltb-false i t e in
              let v = ltb-false t i g in
              let e : i ≡ t = omega (arith, u, v) in
              whole_begun w w' (drop t s) q.stands (subst (λ (j : ℕ). EitherIs w w' (drop j s) Begun) e o)

          by : (r : Resumed) → ResumedIs w w' s from r → ResumedIs w w' s from (Here t)
          by (Here i) r = here_by i r (ltb i t) refl (ltb t i) refl
          by (Waits i) r = absurd (waits_by i r (ltb i t) refl (ltb t i) refl)
          by Nowhere h = absurd (passed (length s) h (resumes_in a x s t q.stands).1)

      -- and where there is none the stream ends
      skip_never : NeverResumes a x s f to → (z : Configuration) (n : ℕ) →
          (r : Resumed) × ResumedIs w w' s from r × (skip_step c z f n r ≡ stop 27 (length s) (between z) (lost f (last_byte c) n ∷ []) 0)
      skip_never q z n = by (some_resumed w w' s from).0 (some_resumed w w' s from).1
        where
          by : (r : Resumed) → ResumedIs w w' s from r → (r : Resumed) × ResumedIs w w' s from r × (skip_step c z f n r ≡ stop 27 (length s) (between z) (lost f (last_byte c) n ∷ []) 0)
          by (Here i) (l, m, o, h) = absurd (q i (k.past i l).0 (k.past i l).1 o)
          by (Waits i) r = (Waits i, r, refl)
          by Nowhere r = (Nowhere, r, refl)

    -- a damaged record, from where it is refused
    dropped : (at room spare n to last : ℕ) (z y : Configuration) (v : List ℕ) (m : Mode) (q : Salvage) → InMode to z y at v m → damaged n ≡ true → ResumesAt a x s at to (suc last) → 1 ≤ spare →
        StepIs c to room spare m (reported spare to m (breaks_at c to m z at n)) → Answers (suc last) room (spare - 1) (between z) q → Answers to room spare m (reporting (lost at last n) q)
    dropped at room spare n to last z y v m q i b p g st (r, d, e) =
        one_further to room spare (past_first c at to) m (skipping z at n) (length (waiting_in m)) (reporting (lost at last n) q)
        (comes_on c to room spare m to (breaks_at c to m z at n) (past_first c at to) (skipping z at n) [] [] (length (waiting_in m)) (omega arith) (damaged_goes c to m z at n b) st) (
          after_step [] (lost at (byte_before c (suc last)) n ∷ []) 0 r,
          goes (suc last) (between z) [] (lost at (byte_before c (suc last)) n ∷ []) 0
              (comes_on c (past_first c at to) room spare (skipping z at n) (suc last) (skip_step c z at n (Here (suc last))) (suc last) (between z) [] (lost at (byte_before c (suc last)) n ∷ []) 0 g refl
              (at_bytes z at n (Here (suc last)) refl (skip_here at to (past_first c at to) (past_first_lem at to (mode_from i)) (suc last) p)))
              (subst (λ (j : ℕ). Rescues c (suc last) j (spare_left spare (lost at (byte_before c (suc last)) n ∷ [])) (between z) r) (omega arith) d),
          ap₂ (λ (j : ℕ) (o : Salvage). reporting (lost at j n) o) (omega arith) e,
        )

    lost_all : (at room spare n to last : ℕ) (z y : Configuration) (v : List ℕ) (m : Mode) → InMode to z y at v m → damaged n ≡ true → NeverResumes a x s at to → suc last ≡ length s → 1 ≤ spare →
        StepIs c to room spare m (reported spare to m (breaks_at c to m z at n)) → Answers to room spare m (ends_lost s at last n z)
    lost_all at room spare n to last z y v m i b p l g st =
        let (r, h, e) = skip_never at to (past_first c at to) (past_first_lem at to (mode_from i)) p z n in
        one_further to room spare (past_first c at to) m (skipping z at n) (length (waiting_in m)) (ends_lost s at last n z)
        (comes_on c to room spare m to (breaks_at c to m z at n) (past_first c at to) (skipping z at n) [] [] (length (waiting_in m)) (omega arith) (damaged_goes c to m z at n b) st) (
          halted c 27 (length s) (between z) (lost at (last_byte c) n ∷ []) 0,
          halts 27 (length s) (between z) (lost at (last_byte c) n ∷ []) 0
              (comes_to c (past_first c at to) room spare (skipping z at n) (skip_to c r) (skip_step c z at n r) 27 (length s) (between z) (lost at (last_byte c) n ∷ []) 0 g e (at_bytes z at n r refl h)),
          ap (λ (j : ℕ). ends_lost s at j n z) (omega arith),
        )

    -- a stop outside a record
    stopped : (at room spare n : ℕ) (z : Configuration) → NoRecordAt a x s at z → Stop a s false at room z n → StepIs c at room spare (between z) (stay n at (between z))
    stopped at room spare n z h (stops e next k r t) = comes_to c at room spare (between z) at _ n at (between z) [] 0 (omega arith) (other_token_lem at room z e next (refuses n) h r t) (at_token e next refl r)
    stopped at room spare n z h (full e next r t) = comes_to c at room spare (between z) at _ 17 at (between z) [] 0 (omega arith) (other_token_lem at room z e next no_room h r t) (at_token e next refl r)
    stopped at room spare n z h (no_token y k r q) = comes_to c at room spare (between z) at (number_step c at n (between z)) n at (between z) [] 0 (omega arith) refl (at_none y n refl r q)

    whole_run : {at room : ℕ} {z : Configuration} {q : Salvage} → Salvages a x s area at room z q → (spare : ℕ) → at ≤ length s → length q.report ≤ spare → Answers at room spare (between z) q
    whole_run (passes {at} {room} {z} e next z' w r h t d) spare l g =
        let (r₁, k, p) = whole_run d spare (read_moves false s at e next r l).1 g in (
          after_step w [] 0 r₁,
          goes next (between z') w [] 0
              (comes_on c at room spare (between z) at _ next (between z') w [] 0 (omega arith) (other_by at room z e next (taken z' w) h t) (at_token e next refl r))
              (subst (λ (j : ℕ). Rescues c next (room_left room w) j (between z') r₁) (omega arith) k),
          ap (behind_output w) p,
        )
    whole_run (stands {at} {room} {z} n h st) spare l g = (halted c n at (between z) [] 0, halts n at (between z) [] 0 (stopped at room spare n z h st), refl)
    whole_run (keeps {at} {room} {z} {r} to next y z' w h i f d) spare l g =
        let j = record_moves a s area i l in
        kept room spare to next y z' w r i (at_first {f = at} (omega arith) h) l f (whole_run d spare j.2 g)
    whole_run (full_room {at} {room} {z} to next y z' w h i f) spare l g = no_room_for room spare to next y z' w i (at_first {f = at} (omega arith) h) l f
    whole_run (waits {at} {room} {z} to y h i) spare l g =
        broke room spare 17 to y (without_report (stopped_at 17 to y)) i (at_first {f = at} (omega arith) h) l (λ v m j st. (
          halted c 17 to m [] (length (waiting_in m)),
          halts 17 to m [] (length (waiting_in m)) (comes_to c to room spare m to (breaks_at c to m z at 17) 17 to m [] (length (waiting_in m)) (omega arith) refl st),
          ap (λ (k : Configuration). without_report (stopped_at 17 to k)) (mode_run j),
        ))
    whole_run (drops {at} {room} {z} {r} n to last y h i b q d) spare l g =
        let k = whole_run d (spare - 1) (let u = resumes_in a x s (suc last) q.stands in omega (arith, u.1)) (omega (arith, g)) in
        broke room spare n to y (reporting (lost at last n) r) i (at_first {f = at} (omega arith) h) l (λ v m j st. dropped at room spare n to last z y v m r j b q (omega (arith, g)) st k)
    whole_run (loses {at} {room} {z} n to last y h i b q k) spare l g =
        broke room spare n to y (ends_lost s at last n z) i (at_first {f = at} (omega arith) h) l (λ v m j st. lost_all at room spare n to last z y v m j b q k (omega (arith, g)) st)
    whole_run (cut_off {at} {room} {z} to last y h i k) spare l g =
        broke room spare 27 to y (reporting (lost at last 27) (without_report (stopped_at 27 to z))) i (at_first {f = at} (omega arith) h) l (λ v m j st. (
          halted c 27 to (between z) (lost at (last_byte c) 27 ∷ []) (length (waiting_in m)),
          halts 27 to (between z) (lost at (last_byte c) 27 ∷ []) (length (waiting_in m)) (comes_to c to room spare m to (breaks_at c to m z at 27) 27 to (between z) (lost at (last_byte c) 27 ∷ []) (length (waiting_in m)) g refl st),
          ap (λ (b : ℕ). reporting (lost at b 27) (without_report (stopped_at 27 to z))) (omega (arith, k)),
        ))
    whole_run (over {at} {room} {z} to y h i) spare l g = over_run at room spare to y z h i l g

-- so one call on a whole stream answers what the salvage run over it does
pub in_one_call : (a : Sheet) (x : RecordTags) → InOneCall a x
in_one_call a x fit s area room spare q d h = whole_run a x s area fit d spare (omega arith) h

-- stretches that rise are no more than the bytes that they lie in
few_rise : (lo hi : ℕ) (ds : List LostStretch) → RisesIn lo hi ds → lo ≤ hi → lo + length ds ≤ hi
few_rise lo hi [] h l = omega arith
few_rise lo hi (d ∷ ds) (i, j, k, h) l = let n = few_rise (suc d.last) hi ds h (omega (arith, k)) in omega (arith, n, i, j)

pub is_salvage : (a : Sheet) (x : RecordTags) → IsSalvage a x
is_salvage a x fit s area room spare r d q e h =
    let (r', d', p) = in_one_call a x fit s area room spare q e h in
    ap as_salvage (one_rescue a x s false area room spare fresh_salvage r r' d d') ∙ p

pub call_salvages : (a : Sheet) (x : RecordTags) → CallSalvages a x
call_salvages a x fit s area room spare r d h =
    let (q, e) = some_salvage a x s area room in
    let n = few_rise 0 (length s) q.report (report_rises a x s area room q e) (omega arith) in
    subst (Salvaged a x s area room) (sym (is_salvage a x fit s area room spare r d q e (omega (arith, n, h)))) e
