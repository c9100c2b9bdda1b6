-- A salvage run has one answer: at each place one thing is read, a token comes to one thing, and a run that stops at a token does not take it.
-- Assumes nothing.
use mathlib.Core.Path.{◌≡◌, refl, sym, ap, ◌∙◌, subst}
use mathlib.Core.Bool.{Bool, true, false, true≢false}
use mathlib.Core.Logic.{◌⊎◌, inl, inr}
use mathlib.Core.List.{List, [], ◌++◌}
use mathlib.Core.Option.{Option, none, some}
use Prim.Native.Nat.{ℕ, suc, ◌-◌, ◌≤◌, ◌<◌}
use native.Mathlib.Omega.{arith}
use lib.Dec.{leb, ltb}
use lib.ListN.{length, drop}
use borrow.Author.Tests.{leb-true, ltb-true, ltb-false}
use Rattle.tokens.specs.declared.Cursor.{Cursor}
use Rattle.tokens.specs.declared.Event.{Event}
use Rattle.tokens.specs.declared.Answer.{Answer}
use Rattle.tokens.specs.declared.Answer.TheVariants.{Token, Waiting, Begun, Bad, Long}
use Rattle.tokens.specs.Stream.{ReadAs}
use Rattle.tokens.proofs.Streams.{read_one}
use Rattle.sheet.specs.Sheet.{Sheet}
use Rattle.runs.specs.Machine.{Configuration}
use Rattle.runs.proofs.Execute.{both_true}
use Rattle.calls.specs.Names.{token_of}
use Rattle.calls.specs.Limits.{Taking, taken, refuses, no_room, one_token}
use Rattle.calls.specs.Call.{Result, stopped_at, room_left, number_at, Stop, stops, full, no_token, takes, halts}
use Rattle.calls.proofs.Answers.{one_run}
use Rattle.salvage.specs.Shape.{RecordTags}
use Rattle.salvage.specs.Resumption.{ResumesAt, NeverResumes}
use Rattle.salvage.specs.Promises.{OneSalvage}
use Rattle.salvage.specs.Salvage.{RecordAt, NoRecordAt, root_only, RecordEnd, whole, broken, InRecord, goes_on, ends, breaks, lost, Salvage, without_report, behind_output, reporting, state_before, ends_lost, over_inside, begins_record, damaged, Salvages, passes, stands, keeps, full as full_room, waits, drops, loses, cut_off, over}

-- at a place where a run stops, with a number, it takes no token; and it stops with one number
module _ (a : Sheet) (s : List ℕ) (more : Bool) (at room : ℕ) (z : Configuration) where
  pub stop_one : (n n' : ℕ) → Stop a s more at room z n → Stop a s more at room z n' → n ≡ n'
  stop_one n n' q q' = ap (λ (r : Result). r.number) (one_run a s more (halts q) (halts q'))

  pub read_same : (e e' : Event) (next next' : ℕ) → ReadAs more s at (Token e (record { at = next })) → ReadAs more s at (Token e' (record { at = next' })) → (e ≡ e') × (next ≡ next')
  read_same e e' next next' m m' =
      let q : Token e (record { at = next }) ≡ Token e' (record { at = next' }) = read_one more s at (Token e (record { at = next })) (Token e' (record { at = next' })) m m' in
      let c : ◌≡◌ {A = Cursor} (record { at = next }) (record { at = next' }) = cc in
      (cc, ap (λ (k : Cursor). k.at) c)

  pub stop_takes_none : (n : ℕ) → Stop a s more at room z n → (e : Event) (next : ℕ) (z' : Configuration) (w : List ℕ) → ReadAs more s at (Token e (record { at = next })) →
      one_token a z room (token_of a s e) ≡ taken z' w → ⊥
  stop_takes_none n (stops e' next' k m' t') e next z' w m t =
      let q = read_same e e' next next' m m' in
      let h : taken z' w ≡ refuses k = sym t ∙ ap (λ (x : Event). one_token a z room (token_of a s x)) q.0 ∙ t' in
      let y : ◌≡◌ {A = ℕ} 0 1 = cc in
      omega arith
  stop_takes_none n (full e' next' m' t') e next z' w m t =
      let q = read_same e e' next next' m m' in
      let h : taken z' w ≡ no_room = sym t ∙ ap (λ (x : Event). one_token a z room (token_of a s x)) q.0 ∙ t' in
      let y : ◌≡◌ {A = ℕ} 0 1 = cc in
      omega arith
  stop_takes_none n (no_token x k m' t') e next z' w m t =
      let q : x ≡ Token e (record { at = next }) = read_one more s at x (Token e (record { at = next })) m' m in
      let h : ◌≡◌ none (some k) = ap (number_at more (length (drop at s)) z.control) (sym q) ∙ t' in
      let y : ◌≡◌ {A = ℕ} 0 1 = cc in
      omega arith

none≢some : (n : ℕ) → ◌≡◌ {A = Option ℕ} none (some n) → ⊥
none≢some n e = let y : ◌≡◌ {A = ℕ} 0 1 = cc in omega arith

-- how a record goes on, by what is read and what that comes to
module _ (a : Sheet) (s : List ℕ) (area : ℕ) where
  abbrev InAfter : ℕ → Configuration → List ℕ → ℕ → RecordEnd → Taking → Type 0
  InAfter at y v next o (taken y' w) =
      ((root_only y'.control ≡ false) × InRecord a s area next y' (v ++ w) o) ⊎ ((root_only y'.control ≡ true) × (o ≡ whole at y next y' (v ++ w)))
  InAfter at y v next o (refuses n) = o ≡ broken n at y
  InAfter at y v next o no_room = o ≡ broken 17 at y

  abbrev InNone : ℕ → Configuration → RecordEnd → Option ℕ → Type 0
  InNone at y o none = ⊥
  InNone at y o (some n) = o ≡ broken n at y

  abbrev InNext : ℕ → Configuration → List ℕ → RecordEnd → Answer → Type 0
  InNext at y v o (Token e next) = InAfter at y v next.at o (one_token a y (room_left area v) (token_of a s e))
  InNext at y v o (Waiting e next) = ⊥
  InNext at y v o Begun = InNone at y o (number_at false (length (drop at s)) y.control Begun)
  InNext at y v o Bad = InNone at y o (number_at false (length (drop at s)) y.control Bad)
  InNext at y v o Long = InNone at y o (number_at false (length (drop at s)) y.control Long)

  by_number : (at : ℕ) (y : Configuration) (v : List ℕ) (o : RecordEnd) (x : Answer) (n : ℕ) → number_at false (length (drop at s)) y.control x ≡ some n →
      o ≡ broken n at y → InNext at y v o x
  by_number at y v o (Token e next) n q p = absurd (none≢some n q)
  by_number at y v o (Waiting e next) n q p = absurd (none≢some n q)
  by_number at y v o Begun n q p = subst (InNone at y o) (sym q) p
  by_number at y v o Bad n q p = subst (InNone at y o) (sym q) p
  by_number at y v o Long n q p = subst (InNone at y o) (sym q) p

  to_number : (at : ℕ) (y : Configuration) (v : List ℕ) (o : RecordEnd) (x : Answer) (n : ℕ) → number_at false (length (drop at s)) y.control x ≡ some n →
      InNext at y v o x → o ≡ broken n at y
  to_number at y v o (Token e next) n q p = absurd (none≢some n q)
  to_number at y v o (Waiting e next) n q p = absurd (none≢some n q)
  to_number at y v o Begun n q p = subst (InNone at y o) q p
  to_number at y v o Bad n q p = subst (InNone at y o) q p
  to_number at y v o Long n q p = subst (InNone at y o) q p

  in_own : {at : ℕ} {y : Configuration} {v : List ℕ} {o : RecordEnd} → InRecord a s area at y v o → (x : Answer) × ReadAs false s at x × InNext at y v o x
  in_own (goes_on {at} {y} {v} {o} e next y' w m t h d) = (Token e (record { at = next }), m, subst (InAfter at y v next o) (sym t) (inl (h, d)))
  in_own (ends {at} {y} {v} e next z w m t h) = (Token e (record { at = next }), m, subst (InAfter at y v next (whole at y next z (v ++ w))) (sym t) (inr (h, refl)))
  in_own (breaks {at} {y} {v} n (stops e next k m t)) = (Token e (record { at = next }), m, subst (InAfter at y v next (broken k at y)) (sym t) refl)
  in_own (breaks {at} {y} {v} n (full e next m t)) = (Token e (record { at = next }), m, subst (InAfter at y v next (broken 17 at y)) (sym t) refl)
  in_own (breaks {at} {y} {v} n (no_token x k m q)) = (x, m, by_number at y v (broken k at y) x k q refl)

  in_split : {at : ℕ} {y : Configuration} {v : List ℕ} {o : RecordEnd} → InRecord a s area at y v o → (x : Answer) → ReadAs false s at x → InNext at y v o x
  in_split {at} {y} {v} {o} d x m = let i = in_own d in subst (InNext at y v o) (read_one false s at i.0 x i.1 m) i.2

  after_goes : (at : ℕ) (y : Configuration) (v : List ℕ) (next : ℕ) (o : RecordEnd) (y' : Configuration) (w : List ℕ) → root_only y'.control ≡ false →
      InAfter at y v next o (taken y' w) → InRecord a s area next y' (v ++ w) o
  after_goes at y v next o y' w h (inl (h', d)) = d
  after_goes at y v next o y' w h (inr (h', e)) = absurd (true≢false (sym h' ∙ h))

  after_ends : (at : ℕ) (y : Configuration) (v : List ℕ) (next : ℕ) (o : RecordEnd) (y' : Configuration) (w : List ℕ) → root_only y'.control ≡ true →
      InAfter at y v next o (taken y' w) → o ≡ whole at y next y' (v ++ w)
  after_ends at y v next o y' w h (inl (h', d)) = absurd (true≢false (sym h ∙ h'))
  after_ends at y v next o y' w h (inr (h', e)) = e

  -- a record ends in one way
  pub record_one : {at : ℕ} {y : Configuration} {v : List ℕ} {o o' : RecordEnd} → InRecord a s area at y v o → InRecord a s area at y v o' → o ≡ o'
  record_one {o' = o'} (goes_on {at} {y} {v} e next y' w m t h d) d' =
      record_one d (after_goes at y v next o' y' w h (subst (InAfter at y v next o') t (in_split d' (Token e (record { at = next })) m)))
  record_one {o' = o'} (ends {at} {y} {v} e next z w m t h) d' =
      sym (after_ends at y v next o' z w h (subst (InAfter at y v next o') t (in_split d' (Token e (record { at = next })) m)))
  record_one {o' = o'} (breaks {at} {y} {v} n (stops e next k m t)) d' = sym (subst (InAfter at y v next o') t (in_split d' (Token e (record { at = next })) m))
  record_one {o' = o'} (breaks {at} {y} {v} n (full e next m t)) d' = sym (subst (InAfter at y v next o') t (in_split d' (Token e (record { at = next })) m))
  record_one {o' = o'} (breaks {at} {y} {v} n (no_token x k m q)) d' = sym (to_number at y v o' x k q (in_split d' x m))

-- a damaged record's number
pub damage : (n : ℕ) → damaged n ≡ true → (20 ≤ n) × (n ≤ 25)
damage n h = let b = both_true (leb 20 n) (leb n 25) h in (leb-true 20 n b.0, leb-true n 25 b.1)

-- what a record's end makes of the run
module _ (a : Sheet) (x : RecordTags) (s : List ℕ) (area : ℕ) where
  data Fate (at room : ℕ) (z : Configuration) (r : Salvage) : RecordEnd → Type 0 where
    is_kept : {to next : ℕ} {y z' : Configuration} {w : List ℕ} (r' : Salvage) → length w ≤ room → Salvages a x s area next (room_left room w) z' r' → r ≡ behind_output w r' →
        Fate at room z r (whole to y next z' w)
    has_no_room : {to next : ℕ} {y z' : Configuration} {w : List ℕ} → room < length w → r ≡ without_report (stopped_at 17 to y) → Fate at room z r (whole to y next z' w)
    must_wait : {n to : ℕ} {y : Configuration} → n ≡ 17 → r ≡ without_report (stopped_at 17 to y) → Fate at room z r (broken n to y)
    is_dropped : {n to : ℕ} {y : Configuration} (last : ℕ) (r' : Salvage) → damaged n ≡ true → ResumesAt a x s at to (suc last) → Salvages a x s area (suc last) room (state_before z y) r' →
        r ≡ reporting (lost at last n) r' → Fate at room z r (broken n to y)
    is_lost : {n to : ℕ} {y : Configuration} (last : ℕ) → damaged n ≡ true → NeverResumes a x s at to → suc last ≡ length s →
        r ≡ ends_lost s at last n (state_before z y) → Fate at room z r (broken n to y)
    is_cut_off : {n to : ℕ} {y : Configuration} (last : ℕ) → n ≡ 27 → suc last ≡ length s → r ≡ reporting (lost at last 27) (without_report (stopped_at 27 to (state_before z y))) →
        Fate at room z r (broken n to y)
    is_over : {n to : ℕ} {y : Configuration} → n ≡ 30 → r ≡ over_inside at to (state_before z y) →
        Fate at room z r (broken n to y)

  -- by what stands at a place: a record, or none
  data First (at room : ℕ) (z : Configuration) (r : Salvage) : Type 0 where
    of_record : (o : RecordEnd) → RecordAt a x s at z → InRecord a s area at z [] o → Fate at room z r o → First at room z r
    of_token : (e : Event) (next : ℕ) (z' : Configuration) (w : List ℕ) (r' : Salvage) → NoRecordAt a x s at z → ReadAs false s at (Token e (record { at = next })) →
        one_token a z room (token_of a s e) ≡ taken z' w → Salvages a x s area next (room_left room w) z' r' → r ≡ behind_output w r' → First at room z r
    of_stop : (n : ℕ) → NoRecordAt a x s at z → Stop a s false at room z n → r ≡ without_report (stopped_at n at z) → First at room z r

  pub no_record : (at : ℕ) (z : Configuration) (e : Event) (next : ℕ) → ReadAs false s at (Token e (record { at = next })) → begins_record x z.control (token_of a s e) ≡ false →
      NoRecordAt a x s at z
  no_record at z e next m h e' next' m' =
      ap (λ (k : Event). begins_record x z.control (token_of a s k)) (read_same a s false at 0 z e' e next' next m' m).0 ∙ h

  first : {at room : ℕ} {z : Configuration} {r : Salvage} → Salvages a x s area at room z r → First at room z r
  first (passes {at} {room} {z} {r} e next z' w m h t d) = of_token e next z' w r (no_record at z e next m h) m t d refl
  first (stands n h q) = of_stop n h q refl
  first (keeps {r = r} to next y z' w h i f d) = of_record (whole to y next z' w) h i (is_kept r f d refl)
  first (full_room to next y z' w h i f) = of_record (whole to y next z' w) h i (has_no_room f refl)
  first (waits to y h i) = of_record (broken 17 to y) h i (must_wait refl refl)
  first (drops {r = r} n to last y h i b q d) = of_record (broken n to y) h i (is_dropped last r b q d refl)
  first (loses n to last y h i b q l) = of_record (broken n to y) h i (is_lost last b q l refl)
  first (cut_off to last y h i l) = of_record (broken 27 to y) h i (is_cut_off last refl l refl)
  first (over to y h i) = of_record (broken 30 to y) h i (is_over refl refl)

  not_both : (at : ℕ) (z : Configuration) → RecordAt a x s at z → NoRecordAt a x s at z → ⊥
  not_both at z h k = true≢false (sym h.begins ∙ k h.event h.next h.reads)

  -- reading resumes at one place
  resumes_one : (at to l l' : ℕ) → ResumesAt a x s at to (suc l) → ResumesAt a x s at to (suc l') → l ≡ l'
  resumes_one at to l l' q q' = by (ltb l l') refl (ltb l' l) refl
    where
      by : (b : Bool) → ltb l l' ≡ b → (c : Bool) → ltb l' l ≡ c → l ≡ l'
      by true h c k = absurd (q'.none_sooner (suc l) q.not_before q.past_start (let u = ltb-true l l' h in omega arith) q.stands)
      by false h true k = absurd (q.none_sooner (suc l') q'.not_before q'.past_start (let u = ltb-true l' l k in omega arith) q'.stands)
      by false h false k = let u = ltb-false l l' h in let v = ltb-false l' l k in omega arith

  module _ (at room : ℕ) (z : Configuration) (r' : Salvage) where
    token_case : (e : Event) (next : ℕ) (z' : Configuration) (w : List ℕ) (r : Salvage) → ((r₂ : Salvage) → Salvages a x s area next (room_left room w) z' r₂ → r ≡ r₂) →
        NoRecordAt a x s at z → ReadAs false s at (Token e (record { at = next })) → one_token a z room (token_of a s e) ≡ taken z' w → First at room z r' → behind_output w r ≡ r'
    token_case e next z' w r rest h m t (of_record o k i f) = absurd (not_both at z k h)
    token_case e next z' w r rest h m t (of_token e₂ next₂ z₂ w₂ r₂ k m₂ t₂ d₂ q) =
        let i = read_same a s false at room z e₂ e next₂ next m₂ m in
        let u : taken z₂ w₂ ≡ taken z' w = sym t₂ ∙ ap (λ (y : Event). one_token a z room (token_of a s y)) i.0 ∙ t in
        let p : z₂ ≡ z' = cc in
        let v : w₂ ≡ w = cc in
        let d₃ = subst (λ (n : ℕ). Salvages a x s area n (room_left room w₂) z₂ r₂) i.1 d₂ in
        let d₄ = subst (λ (l : List ℕ). Salvages a x s area next (room_left room l) z₂ r₂) v d₃ in
        let d₅ = subst (λ (y : Configuration). Salvages a x s area next (room_left room w) y r₂) p d₄ in
        ap (behind_output w) (rest r₂ d₅) ∙ ap (λ (l : List ℕ). behind_output l r₂) (sym v) ∙ sym q
    token_case e next z' w r rest h m t (of_stop n k st q) = absurd (stop_takes_none a s false at room z n st e next z' w m t)

    stop_case : (n : ℕ) → NoRecordAt a x s at z → Stop a s false at room z n → First at room z r' → without_report (stopped_at n at z) ≡ r'
    stop_case n h st (of_record o k i f) = absurd (not_both at z k h)
    stop_case n h st (of_token e₂ next₂ z₂ w₂ r₂ k m₂ t₂ d₂ q) = absurd (stop_takes_none a s false at room z n st e₂ next₂ z₂ w₂ m₂ t₂)
    stop_case n h st (of_stop n₂ k st₂ q) = ap (λ (j : ℕ). without_report (stopped_at j at z)) (stop_one a s false at room z n n₂ st st₂) ∙ sym q

    record_case : (o : RecordEnd) → RecordAt a x s at z → InRecord a s area at z [] o → First at room z r' → Fate at room z r' o
    record_case o h i (of_record o₂ k i₂ f) = subst (Fate at room z r') (record_one a s area i₂ i) f
    record_case o h i (of_token e₂ next₂ z₂ w₂ r₂ k m₂ t₂ d₂ q) = absurd (not_both at z h k)
    record_case o h i (of_stop n₂ k st₂ q) = absurd (not_both at z h k)

    kept_case : (to next : ℕ) (y z' : Configuration) (w : List ℕ) (r : Salvage) → length w ≤ room → ((r₂ : Salvage) → Salvages a x s area next (room_left room w) z' r₂ → r ≡ r₂) →
        Fate at room z r' (whole to y next z' w) → behind_output w r ≡ r'
    kept_case to next y z' w r f rest (is_kept r₂ f₂ d₂ q) = ap (behind_output w) (rest r₂ d₂) ∙ sym q
    kept_case to next y z' w r f rest (has_no_room f₂ q) = absurd (omega arith)

    full_case : (to next : ℕ) (y z' : Configuration) (w : List ℕ) → room < length w → Fate at room z r' (whole to y next z' w) → without_report (stopped_at 17 to y) ≡ r'
    full_case to next y z' w f (is_kept r₂ f₂ d₂ q) = absurd (omega arith)
    full_case to next y z' w f (has_no_room f₂ q) = sym q

    waits_case : (to : ℕ) (y : Configuration) → Fate at room z r' (broken 17 to y) → without_report (stopped_at 17 to y) ≡ r'
    waits_case to y (must_wait e q) = sym q
    waits_case to y (is_dropped last r₂ b q d p) = absurd (let u = damage 17 b in omega arith)
    waits_case to y (is_lost last b q l p) = absurd (let u = damage 17 b in omega arith)
    waits_case to y (is_cut_off last e l p) = absurd (omega arith)
    waits_case to y (is_over e p) = absurd (omega arith)

    drops_case : (n to last : ℕ) (y : Configuration) (r : Salvage) → damaged n ≡ true → ResumesAt a x s at to (suc last) →
        ((r₂ : Salvage) → Salvages a x s area (suc last) room (state_before z y) r₂ → r ≡ r₂) → Fate at room z r' (broken n to y) → reporting (lost at last n) r ≡ r'
    drops_case n to last y r b q rest (must_wait e p) = absurd (let u = damage n b in omega arith)
    drops_case n to last y r b q rest (is_dropped l₂ r₂ b₂ q₂ d₂ p) =
        let e = resumes_one at to l₂ last q₂ q in
        ap (reporting (lost at last n)) (rest r₂ (subst (λ (l : ℕ). Salvages a x s area (suc l) room (state_before z y) r₂) e d₂))
        ∙ ap (λ (l : ℕ). reporting (lost at l n) r₂) (sym e) ∙ sym p
    drops_case n to last y r b q rest (is_lost l₂ b₂ q₂ l p) = absurd (q₂ (suc last) q.not_before q.past_start q.stands)
    drops_case n to last y r b q rest (is_cut_off l₂ e l p) = absurd (let u = damage n b in omega arith)
    drops_case n to last y r b q rest (is_over e p) = absurd (let u = damage n b in omega arith)

    loses_case : (n to last : ℕ) (y : Configuration) → damaged n ≡ true → NeverResumes a x s at to → suc last ≡ length s → Fate at room z r' (broken n to y) →
        ends_lost s at last n (state_before z y) ≡ r'
    loses_case n to last y b q l (must_wait e p) = absurd (let u = damage n b in omega arith)
    loses_case n to last y b q l (is_dropped l₂ r₂ b₂ q₂ d₂ p) = absurd (q (suc l₂) q₂.not_before q₂.past_start q₂.stands)
    loses_case n to last y b q l (is_lost l₂ b₂ q₂ k p) =
        let e : last ≡ l₂ = omega (arith, l, k) in
        ap (λ (j : ℕ). ends_lost s at j n (state_before z y)) e ∙ sym p
    loses_case n to last y b q l (is_cut_off l₂ e k p) = absurd (let u = damage n b in omega arith)
    loses_case n to last y b q l (is_over e p) = absurd (let u = damage n b in omega arith)

    cut_off_case : (to last : ℕ) (y : Configuration) → suc last ≡ length s → Fate at room z r' (broken 27 to y) →
        reporting (lost at last 27) (without_report (stopped_at 27 to (state_before z y))) ≡ r'
    cut_off_case to last y l (must_wait e p) = absurd (omega arith)
    cut_off_case to last y l (is_dropped l₂ r₂ b₂ q₂ d₂ p) = absurd (let u = damage 27 b₂ in omega arith)
    cut_off_case to last y l (is_lost l₂ b₂ q₂ k p) = absurd (let u = damage 27 b₂ in omega arith)
    cut_off_case to last y l (is_cut_off l₂ e k p) =
        let i : last ≡ l₂ = omega (arith, l, k) in
        ap (λ (j : ℕ). reporting (lost at j 27) (without_report (stopped_at 27 to (state_before z y)))) i ∙ sym p
    cut_off_case to last y l (is_over e p) = absurd (omega arith)

    over_case : (to : ℕ) (y : Configuration) → Fate at room z r' (broken 30 to y) → over_inside at to (state_before z y) ≡ r'
    over_case to y (must_wait e p) = absurd (omega arith)
    over_case to y (is_dropped l₂ r₂ b₂ q₂ d₂ p) = absurd (let u = damage 30 b₂ in omega arith)
    over_case to y (is_lost l₂ b₂ q₂ k p) = absurd (let u = damage 30 b₂ in omega arith)
    over_case to y (is_cut_off l₂ e k p) = absurd (omega arith)
    over_case to y (is_over e p) = sym p

  pub salvage_one : {at room : ℕ} {z : Configuration} {r r' : Salvage} → Salvages a x s area at room z r → Salvages a x s area at room z r' → r ≡ r'
  salvage_one {r' = r'} (passes {at} {room} {z} {r} e next z' w m h t d) d' =
      token_case at room z r' e next z' w r (λ r₂ d₂. salvage_one d d₂) (no_record at z e next m h) m t (first d')
  salvage_one {r' = r'} (stands {at} {room} {z} n h q) d' = stop_case at room z r' n h q (first d')
  salvage_one {r' = r'} (keeps {at} {room} {z} {r} to next y z' w h i f d) d' =
      kept_case at room z r' to next y z' w r f (λ r₂ d₂. salvage_one d d₂) (record_case at room z r' (whole to y next z' w) h i (first d'))
  salvage_one {r' = r'} (full_room {at} {room} {z} to next y z' w h i f) d' =
      full_case at room z r' to next y z' w f (record_case at room z r' (whole to y next z' w) h i (first d'))
  salvage_one {r' = r'} (waits {at} {room} {z} to y h i) d' = waits_case at room z r' to y (record_case at room z r' (broken 17 to y) h i (first d'))
  salvage_one {r' = r'} (drops {at} {room} {z} {r} n to last y h i b q d) d' =
      drops_case at room z r' n to last y r b q (λ r₂ d₂. salvage_one d d₂) (record_case at room z r' (broken n to y) h i (first d'))
  salvage_one {r' = r'} (loses {at} {room} {z} n to last y h i b q l) d' = loses_case at room z r' n to last y b q l (record_case at room z r' (broken n to y) h i (first d'))
  salvage_one {r' = r'} (cut_off {at} {room} {z} to last y h i l) d' = cut_off_case at room z r' to last y l (record_case at room z r' (broken 27 to y) h i (first d'))
  salvage_one {r' = r'} (over {at} {room} {z} to y h i) d' = over_case at room z r' to y (record_case at room z r' (broken 30 to y) h i (first d'))

-- any two answers are equal
pub one_salvage : (a : Sheet) (x : RecordTags) → OneSalvage a x
one_salvage a x s area room r r' d d' = salvage_one a x s area d d'
