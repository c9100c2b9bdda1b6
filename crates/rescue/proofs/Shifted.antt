-- The bytes that are left of a stream do as well as the whole: a call from the place n + at on is one on the bytes from n on, from the place `at` on, with n more bytes taken before it.
-- Assumes nothing.
use mathlib.Core.Path.{◌≡◌, refl, sym, ap, ap₂, ◌∙◌, subst}
use mathlib.Core.Bool.{Bool, true, false, cond}
use mathlib.Core.List.{List, [], ◌∷◌, ◌++◌}
use mathlib.Core.Option.{some}
use Prim.Native.Nat.{ℕ, suc, ◌+◌, ◌-◌, ◌≤◌}
use native.Mathlib.Omega.{arith}
use lib.Dec.{eqb, leb, ltb}
use lib.ListN.{length, drop, length-drop}
use lib.Seq.{drop-drop}
use Rattle.expressions.specs.Grammar.{only_if}
use Rattle.tokens.specs.declared.Answer.{Answer}
use Rattle.tokens.specs.declared.Answer.TheVariants.{Token, Waiting, Begun, Bad, Long}
use Rattle.tokens.specs.declared.Word.{Word}
use Rattle.tokens.specs.declared.Word.TheVariants.{Whole, Begun as BegunWord, No}
use Rattle.sheet.specs.Sheet.{Sheet}
use Rattle.runs.specs.Machine.{Control, Configuration}
use Rattle.runs.specs.Spells.{Token as RunToken}
use Rattle.calls.specs.Names.{token_of}
use Rattle.calls.specs.Limits.{Taking, taken, refuses, no_room, one_token}
use Rattle.calls.specs.Held.{leaves_open, closing_of}
use Rattle.calls.specs.Call.{room_left, number_at}
use Rattle.calls.proofs.Read.{NoToken, none_there, token_there}
use Rattle.salvage.specs.Shape.{RecordTags}
use Rattle.salvage.specs.Resumption.{record_start, root_end}
use Rattle.salvage.specs.Salvage.{root_only, begins_record, lost, damaged}
use Rattle.salvaging.specs.declared.Resumed.{Resumed}
use Rattle.salvaging.specs.declared.Resumed.TheVariants.{Here, Waits, Nowhere}
use Rattle.salvaging.specs.Resumed.{EitherIs, ApartUpTo, ResumedIs}
use Rattle.rescue.specs.Held.{Mode, between, inside, skipping, control_of, waiting_in, Rescued}
use Rattle.rescue.specs.Step.{Setting, Step, on, stop, stay, last_byte, past_first, drops_at, closes_at, breaks_at, record_token, other_token, token_step, number_step, ran_out, skip_step, skip_to, reported, StepIs, at_token, at_none, at_bytes}
use Rattle.rescue.specs.Call.{halted, after_step, Rescues, goes, halts, setting}

not_token : (more : Bool) (left : ℕ) (c : Control) (y : Answer) (k : ℕ) → number_at more left c y ≡ some k → NoToken y
not_token more left c (Token e next) k q = let z : ◌≡◌ {A = ℕ} 0 1 = cc in omega arith
not_token more left c (Waiting e next) k q = let z : ◌≡◌ {A = ℕ} 0 1 = cc in omega arith
not_token more left c Begun k q = tt
not_token more left c Bad k q = tt
not_token more left c Long k q = tt

-- n bytes further on
abbrev moved : ℕ → Step → Step
moved n (on next m w ds k) = on (n + next) m w ds k
moved n (stop j to m ds k) = stop j (n + to) m ds k

abbrev moved_resumed : ℕ → Resumed → Resumed
moved_resumed n (Here to) = Here (n + to)
moved_resumed n (Waits to) = Waits (n + to)
moved_resumed n Nowhere = Nowhere

abbrev pub moved_rescue : ℕ → Rescued → Rescued
moved_rescue n r = record { number = r.number; taken = n + r.taken; output = r.output; report = r.report; waited = r.waited; held = r.held }

reported_moved : (n spare p : ℕ) (m : Mode) (t : Step) → reported spare (n + p) m (moved n t) ≡ moved n (reported spare p m t)
reported_moved n spare p m (on next m' w ds k) = by (leb (length ds) spare)
  where
    by : (o : Bool) → cond o (on (n + next) m' w ds k) (stay 17 (n + p) m) ≡ moved n (cond o (on next m' w ds k) (stay 17 p m))
    by true = refl
    by false = refl
reported_moved n spare p m (stop j to m' ds k) = by (leb (length ds) spare)
  where
    by : (o : Bool) → cond o (stop j (n + to) m' ds k) (stay 17 (n + p) m) ≡ moved n (cond o (stop j to m' ds k) (stay 17 p m))
    by true = refl
    by false = refl

other_moved : (n at : ℕ) (m : Mode) (next : ℕ) (u : Taking) → other_token (n + at) m (n + next) u ≡ moved n (other_token at m next u)
other_moved n at m next (taken y w) = refl
other_moved n at m next (refuses k) = refl
other_moved n at m next no_room = refl

module _ (a : Sheet) (x : RecordTags) (s : List ℕ) (more : Bool) (base area n : ℕ) (fits : n ≤ length s) where
  abbrev c : Setting
  c = setting a x s more base area

  abbrev pub left_call : Setting
  left_call = setting a x (drop n s) more (base + n) area

  in_stream : (at : ℕ) → base + (n + at) ≡ base + n + at
  in_stream at = omega arith

  last_moved : last_byte c ≡ last_byte left_call
  last_moved = omega (arith, length-drop n s, fits)

  length_moved : length s ≡ n + length (drop n s)
  length_moved = omega (arith, length-drop n s, fits)

  module _ (at : ℕ) where
    past_moved : (f : ℕ) → past_first c f (n + at) ≡ n + past_first left_call f at
    past_moved f = ap (λ (j : ℕ). cond (ltb f j) (n + at) (suc (n + at))) (in_stream at) ∙ by (ltb f (base + n + at))
      where
        by : (o : Bool) → cond o (n + at) (suc (n + at)) ≡ n + cond o at (suc at)
        by true = refl
        by false = omega arith

    breaks_moved : (m : Mode) (z : Configuration) (f k : ℕ) → breaks_at c (n + at) m z f k ≡ moved n (breaks_at left_call at m z f k)
    breaks_moved m z f k = by (leaves_open k) (damaged k)
      where
        by : (o d : Bool) → cond o (stay k (n + at) m) (cond d (drops_at c (n + at) m z f k) (closes_at c (n + at) m z f k)) ≡
            moved n (cond o (stay k at m) (cond d (drops_at left_call at m z f k) (closes_at left_call at m z f k)))
        by true d = refl
        by false true = ap (λ (p : ℕ). on p (skipping z f k) [] [] (length (waiting_in m))) (past_moved f)
        by false false =
            ap₂ (λ (l p : ℕ). stop k (n + at) (between z) (cond (eqb k 27) (lost f l k ∷ []) (only_if (ltb f p) (lost f (p - 1) k))) (length (waiting_in m))) last_moved (in_stream at)

    record_moved : (room : ℕ) (m : Mode) (z : Configuration) (f : ℕ) (v : List ℕ) (next : ℕ) (u : Taking) →
        record_token c (n + at) room m z f v (n + next) u ≡ moved n (record_token left_call at room m z f v next u)
    record_moved room m z f v next (taken y w) = by (root_only y.control) (leb (length (v ++ w)) room)
      where
        by : (o d : Bool) →
            cond o (cond d (on (n + next) (between y) (v ++ w) [] (length (v ++ w))) (stop 17 (n + at) m [] (length (v ++ w)))) (on (n + next) (inside z y f (v ++ w)) [] [] (length (v ++ w))) ≡
            moved n (cond o (cond d (on next (between y) (v ++ w) [] (length (v ++ w))) (stop 17 at m [] (length (v ++ w)))) (on next (inside z y f (v ++ w)) [] [] (length (v ++ w))))
        by true true = refl
        by true false = refl
        by false d = refl
    record_moved room m z f v next (refuses k) = breaks_moved m z f k
    record_moved room m z f v next no_room = refl

    token_moved : (room next : ℕ) (k : RunToken) (m : Mode) → token_step c (n + at) room (n + next) k m ≡ moved n (token_step left_call at room next k m)
    token_moved room next k (between z) = by (begins_record x z.control k)
      where
        by : (o : Bool) →
            cond o (record_token c (n + at) room (between z) z (base + (n + at)) [] (n + next) (one_token a z (room_left area []) k)) (other_token (n + at) (between z) (n + next) (one_token a z room k)) ≡
            moved n (cond o (record_token left_call at room (between z) z (base + n + at) [] next (one_token a z (room_left area []) k)) (other_token at (between z) next (one_token a z room k)))
        by true =
            ap (λ (f : ℕ). record_token c (n + at) room (between z) z f [] (n + next) (one_token a z (room_left area []) k)) (in_stream at)
            ∙ record_moved room (between z) z (base + n + at) [] next (one_token a z (room_left area []) k)
        by false = other_moved n at (between z) next (one_token a z room k)
    token_moved room next k (inside z y f v) = record_moved room (inside z y f v) z f v next (one_token a y (room_left area v) k)
    token_moved room next k (skipping z f j) = refl

    number_moved : (k : ℕ) (m : Mode) → number_step c (n + at) k m ≡ moved n (number_step left_call at k m)
    number_moved k (between z) = refl
    number_moved k (inside z y f v) = breaks_moved (inside z y f v) z f k
    number_moved k (skipping z f j) = refl

  ran_moved : (to : ℕ) (z : Configuration) (f k : ℕ) → ran_out c (n + to) z f k ≡ moved n (ran_out left_call to z f k)
  ran_moved to z f k = by more
    where
      by : (o : Bool) → cond o (stay 16 (n + to) (skipping z f k)) (stop 27 (length s) (between z) (lost f (last_byte c) k ∷ []) 0) ≡
          moved n (cond o (stay 16 to (skipping z f k)) (stop 27 (length (drop n s)) (between z) (lost f (last_byte left_call) k ∷ []) 0))
      by true = refl
      by false = ap₂ (λ (j l : ℕ). stop 27 j (between z) (lost f l k ∷ []) 0) length_moved last_moved

  skip_moved : (z : Configuration) (f k : ℕ) (r : Resumed) → skip_step c z f k (moved_resumed n r) ≡ moved n (skip_step left_call z f k r)
  skip_moved z f k (Here to) = ap (λ (j : ℕ). on (n + to) (between z) [] (lost f (j - 1) k ∷ []) 0) (in_stream to)
  skip_moved z f k (Waits to) = ran_moved to z f k
  skip_moved z f k Nowhere = ap (λ (j : ℕ). ran_out c j z f k) length_moved ∙ ran_moved (length (drop n s)) z f k

  to_moved : (r : Resumed) → skip_to c (moved_resumed n r) ≡ n + skip_to left_call r
  to_moved (Here to) = refl
  to_moved (Waits to) = length_moved
  to_moved Nowhere = length_moved

  abbrev w : List ℕ
  w = record_start a x

  abbrev w' : List ℕ
  w' = root_end a x

  there : (i j : ℕ) (o : Word) → n + i ≡ j → EitherIs w w' (drop j s) o → EitherIs w w' (drop i (drop n s)) o
  there i j o e k = subst (λ (f : List ℕ). EitherIs w w' f o) (ap (λ (p : ℕ). drop p s) (sym e) ∙ sym (drop-drop i n s)) k

  apart_moved : (at to : ℕ) → ApartUpTo w w' s (n + at) (n + to) → ApartUpTo w w' (drop n s) at to
  apart_moved at to h j p q = there j (n + j) No refl (h (n + j) (omega (arith, p)) (omega (arith, q)))

  resumed_moved : (at : ℕ) (r : Resumed) → ResumedIs w w' s (n + at) r → (r' : Resumed) × ResumedIs w w' (drop n s) at r' × (moved_resumed n r' ≡ r)
  resumed_moved at (Here i) (l, m, k, h) =
      let e : n + (i - n) ≡ i = omega (arith, l) in
      (Here (i - n), (omega (arith, l), omega (arith, l, m, length-drop n s), there (i - n) i Whole e k, apart_moved at (i - n) (subst (ApartUpTo w w' s (n + at)) (sym e) h)), ap Here e)
  resumed_moved at (Waits i) (l, m, k, h) =
      let e : n + (i - n) ≡ i = omega (arith, l) in
      (Waits (i - n), (omega (arith, l), omega (arith, l, m, length-drop n s), there (i - n) i BegunWord e k, apart_moved at (i - n) (subst (ApartUpTo w w' s (n + at)) (sym e) h)), ap Waits e)
  resumed_moved at Nowhere h = (Nowhere, apart_moved at (length (drop n s)) (subst (ApartUpTo w w' s (n + at)) length_moved h), refl)

  bytes_moved : (at : ℕ) → drop (n + at) s ≡ drop at (drop n s)
  bytes_moved at = sym (drop-drop at n s)

  step_moved : (at room spare : ℕ) (m : Mode) (t : Step) → StepIs c (n + at) room spare m t → (t' : Step) × StepIs left_call at room spare m t' × (t ≡ moved n t')
  step_moved at room spare m t (at_token e next q r) =
      let l = token_there more s (drop n s) (n + at) at (bytes_moved at) e next r in
      let i : next ≡ n + l.to = omega (arith, l.as_long) in (
        reported spare at m (token_step left_call at room l.to (token_of a (drop n s) l.event) m),
        at_token l.event l.to q l.read,
        ap (reported spare (n + at) m)
            (ap₂ (λ (j : ℕ) (k : RunToken). token_step c (n + at) room j k m) i (sym (l.same a)) ∙ token_moved at room l.to (token_of a (drop n s) l.event) m)
            ∙ reported_moved n spare at m (token_step left_call at room l.to (token_of a (drop n s) l.event) m),
      )
  step_moved at room spare m t (at_none y k q r h) = (
    reported spare at m (number_step left_call at k m),
    at_none y k q (none_there more s (drop n s) (n + at) at (bytes_moved at) y (not_token more (length (drop (n + at) s)) (control_of m) y k h) r)
        (ap (λ (l : List ℕ). number_at more (length l) (control_of m) y) (sym (bytes_moved at)) ∙ h),
    ap (reported spare (n + at) m) (number_moved at k m) ∙ reported_moved n spare at m (number_step left_call at k m),
  )
  step_moved at room spare m t (at_bytes z f k r e h) =
      let (r', h', i) = resumed_moved at r h in (
        reported spare (skip_to left_call r') m (skip_step left_call z f k r'),
        at_bytes z f k r' e h',
        ap (λ (r : Resumed). reported spare (skip_to c r) m (skip_step c z f k r)) (sym i)
            ∙ ap₂ (λ (p : ℕ) (t : Step). reported spare p m t) (to_moved r') (skip_moved z f k r') ∙ reported_moved n spare (skip_to left_call r') m (skip_step left_call z f k r'),
      )

  abbrev ShiftedTo : (at room spare : ℕ) → Mode → Rescued → Type 0
  ShiftedTo at room spare m r = (r' : Rescued) × Rescues left_call at room spare m r' × (r ≡ moved_rescue n r')

  pub shift : {from room spare : ℕ} {m : Mode} {r : Rescued} → Rescues c from room spare m r → (at : ℕ) → from ≡ n + at → ShiftedTo at room spare m r
  shift (goes {at = from} {room} {spare} {m} {r} next m' o ds k i d) at e =
      by (step_moved at room spare m (on next m' o ds k) (subst (λ (j : ℕ). StepIs c j room spare m (on next m' o ds k)) e i)) (λ to q. shift d to q)
    where
      by : (t' : Step) × StepIs left_call at room spare m t' × (on next m' o ds k ≡ moved n t') → ((to : ℕ) → next ≡ n + to → ShiftedTo to (room_left room o) (spare - length ds) m' r) →
          ShiftedTo at room spare m (after_step o ds k r)
      by (on to m₁ o₁ ds₁ k₁, st, q) rec =
          let p : next ≡ n + to = cc in
          let em : m' ≡ m₁ = cc in
          let eo : o ≡ o₁ = cc in
          let ed : ds ≡ ds₁ = cc in
          let ek : k ≡ k₁ = cc in
          let (r', d', g) = rec to p in
          let st' : StepIs left_call at room spare m (on to m' o ds k) = subst (StepIs left_call at room spare m) (λ j. on to (sym em j) (sym eo j) (sym ed j) (sym ek j)) st in
          (after_step o ds k r', goes to m' o ds k st' d', ap (after_step o ds k) g)
      by (stop j to m₁ ds₁ k₁, st, q) rec = absurd (let y : ◌≡◌ {A = ℕ} 0 1 = cc in omega arith)
  shift (halts {at = from} {room} {spare} {m} j to m' ds k i) at e =
      by (step_moved at room spare m (stop j to m' ds k) (subst (λ (q : ℕ). StepIs c q room spare m (stop j to m' ds k)) e i))
    where
      by : (t' : Step) × StepIs left_call at room spare m t' × (stop j to m' ds k ≡ moved n t') → ShiftedTo at room spare m (halted c j to m' ds k)
      by (on next m₁ o₁ ds₁ k₁, st, q) = absurd (let y : ◌≡◌ {A = ℕ} 0 1 = cc in omega arith)
      by (stop j₁ to₁ m₁ ds₁ k₁, st, q) =
          let ej : j ≡ j₁ = cc in
          let p : to ≡ n + to₁ = cc in
          let em : m' ≡ m₁ = cc in
          let ed : ds ≡ ds₁ = cc in
          let ek : k ≡ k₁ = cc in
          let st' : StepIs left_call at room spare m (stop j to₁ m' ds k) = subst (StepIs left_call at room spare m) (λ q. stop (sym ej q) to₁ (sym em q) (sym ed q) (sym ek q)) st in
          let h : base + to ≡ base + n + to₁ = omega (arith, p) in (
            halted left_call j to₁ m' ds k,
            halts j to₁ m' ds k st',
            λ q. record { number = j; taken = p q; output = []; report = ds; waited = k; held = record { mode = m'; passed = h q; closing = closing_of (leaves_open j) j } },
          )
