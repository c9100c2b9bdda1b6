-- What a call answers before its first token and after its last: the tests of the sheet and of the state one after the other (`entered-..`), and the number
-- where no whole token comes next (`begun-..`), by where the state stands.
-- Assumes nothing.
use mathlib.Core.Path.{◌≡◌, refl, sym, ap, ap₂, ◌∙◌, subst}
use mathlib.Core.Logic.{◌⊎◌, inl, inr}
use mathlib.Core.Bool.{Bool, true, false, not, ◌||◌, cond}
use mathlib.Core.List.{List, [], ◌++◌, reverse, append-nil}
use mathlib.Core.Option.{Option, none, some, none-ne-some as none_some}
use Prim.Native.Nat.{ℕ, zero, suc, ◌+◌, ◌-◌, ◌^◌, ◌≤◌, ◌<◌}
use native.Mathlib.Omega.{arith}
use lib.Dec.{eqb}
use lib.ListN.{length, take, replicate, length-replicate, drop_of_length-le}
use borrow.Author.Tests.{ne_eqb, eq-eqb, eqb-true}
use Rattle.lent.proofs.Laws.{put_all}
use Rattle.tells.proofs.Laws.{held, failed}
use Rattle.tokens.specs.declared.Answer.TheVariants.{Begun}
use Rattle.expressions.specs.FaultList.{FaultNumber, passes, t_fault, s_faults}
use Rattle.sheet.specs.Sheet.{Sheet, grammar_of, IsSheet}
use Rattle.sheet.proofs.SheetLaws.{sheet_grammar}
use Rattle.faults.specs.Verdict.{VerdictIs, malformed, of_sheet}
use Rattle.runs.specs.Taken.{Passed}
use Rattle.runs.specs.Machine.{Control}
use Rattle.calls.specs.Call.{at_end, number_at, again}
use Rattle.state.specs.Changes.{not_closed, bare_frame}
use Rattle.state.specs.Meaning.{standing, meaning_of, Shaped}
use Rattle.state.specs.Bytes.{heading_from, state_from, Sized, Wrote}
use Rattle.state.specs.declared.Frame.{Frame}
use Rattle.state.specs.declared.Heading.{Heading}
use Rattle.state.specs.declared.State.{State}
use Rattle.state.proofs.Laws.{first_last}
use Rattle.fit.specs.Tests.{FitTold}
use Rattle.fit.proofs.Theorems.{fits_sheet, fit_shaped}
use Rattle.fit.proofs.RunsFit.{fit_run}
use Rattle.converter.specs.Answered.{FitsSheet, GivenBack, sheet_fails, unfit, closed}
use Rattle.live.specs.declared.Live.{Live}
use Rattle.state.specs.Bounds.{state_width}
use Rattle.converter.specs.Bytes.{state_in}
use Rattle.converter.specs.Inner.{MayRun, Entered, may_run, given_back, closed_live, left_live}
use Rattle.converter.proofs.Replies.{some_inj}

-- a sheet that is answered with 0 passes
pub record PassedSheet (s : List ℕ) : Type 0 where
  pub sheet : Sheet
  pub is_sheet : IsSheet s sheet
  pub passed : Passed sheet

passed_by : {s : List ℕ} {n : ℕ} (a : Sheet) → IsSheet s a → FaultNumber (grammar_of a.rules) n → n ≡ 0 → PassedSheet s
passed_by a i (passes t u) e = record { sheet = a; is_sheet = i; passed = record { keeps_T = t; keeps_S = u } }
passed_by a i (t_fault f) e = absurd (omega arith)
passed_by a i (s_faults t f) e = absurd (omega arith)

pub passed_sheet : {s : List ℕ} {n : ℕ} → VerdictIs s n → n ≡ 0 → PassedSheet s
passed_sheet (malformed h d) e = absurd (omega arith)
passed_sheet (of_sheet a i q) e = passed_by a i q e

pub entered_failing : {s : List ℕ} {o : Option State} {n : ℕ} → VerdictIs s n → (n ≡ 0 → ⊥) → Entered s o n
entered_failing v h = let k = over_zero h in given_back k (sheet_fails k v)
  where
    over_zero : {n : ℕ} → (n ≡ 0 → ⊥) → 1 ≤ n
    over_zero {n} h = omega arith

-- no state, where the bytes are of another length
pub entered_none : {s : List ℕ} {o : Option State} {n : ℕ} → VerdictIs s n → n ≡ 0 → o ≡ none → Entered s o 29
entered_none v e q =
    let p = passed_sheet v e in
    given_back {n = 29} (omega arith) (unfit p.sheet p.is_sheet p.passed (λ z h f. absurd (let y : ◌≡◌ {A = ℕ} 0 1 = (let k = sym q ∙ h in cc) in omega arith)))

module _ {s : List ℕ} {n : ℕ} (v : VerdictIs s n) (e : n ≡ 0) (z : State) (r : Bool) (t : FitTold s z r) where
  abbrev a : Sheet
  a = (passed_sheet v e).sheet

  pub entered_unfit : not r ≡ true → Entered s (some z) 29
  entered_unfit h =
      let p = passed_sheet v e in
      let w : FitsSheet a z → ⊥ = failed (fits_sheet p.is_sheet z r t) h in
      given_back {n = 29} (omega arith) (unfit a p.is_sheet p.passed (λ y q f. w (subst (FitsSheet a) (let i : z ≡ y = cc in sym i) f)))

  again_over : (c : ℕ) → 1 ≤ again c
  again_over zero = omega arith
  again_over (suc c) = omega arith

  pub entered_closed : not r ≡ false → (z.closed ≡ not_closed → ⊥) → Entered s (some z) (again z.closed)
  entered_closed h w =
      let p = passed_sheet v e in
      given_back (again_over z.closed)
      (closed a p.is_sheet p.passed z refl (held (fits_sheet p.is_sheet z r t) h) z.closed
      (ap (λ (b : Bool). cond b none (some z.closed)) (ne_eqb z.closed not_closed w)))

  pub entered_open : not r ≡ false → z.closed ≡ not_closed → (z.count < 2 ^ 64 → z.depth < 2 ^ 64 → Sized z) → Entered s (some z) 0
  entered_open h o sized =
      let p = passed_sheet v e in
      let f = held (fits_sheet p.is_sheet z r t) h in
      let w = sized (omega (arith, f.count)) (omega (arith, f.few)) in
      may_run z refl
      (record {
        sheet = a;
        is_sheet = p.is_sheet;
        passed = p.passed;
        fits = f;
        is_open = o;
        shaped = fit_shaped s _ (sheet_grammar p.is_sheet) a.start_nonterminal z w f;
        run_fits = fit_run p.is_sheet z w f;
      })

-- and what that tells a caller
pub entered_back : {s : List ℕ} {o : Option State} {n : ℕ} → Entered s o n → (n ≡ 0 → ⊥) → GivenBack s o n
entered_back (may_run z e m) h = absurd (h refl)
entered_back (given_back k g) h = g

entered_run : {s : List ℕ} {o : Option State} {n : ℕ} → Entered s o n → n ≡ 0 → (z : State) × ((o ≡ some z) × MayRun s z)
entered_run (may_run z e m) h = (z, (e, m))
entered_run (given_back k g) h = absurd (omega arith)

pub entered_may : {s : List ℕ} {z : State} {n : ℕ} → Entered s (some z) n → n ≡ 0 → MayRun s z
entered_may {s} e h = let (y, (q, m)) = entered_run e h in subst (MayRun s) (sym (some_inj q)) m

-- the state that bytes are
pub state_in_lem : (b : List ℕ) → length b ≡ state_width → state_in b ≡ some (state_from b)
state_in_lem b h = ap (λ (t : Bool). cond t (some (state_from b)) none) (eq-eqb (length b) state_width h)

pub in_bytes : {s : List ℕ} {n : ℕ} (b : List ℕ) → length b ≡ state_width → Entered s (some (state_from b)) n → Entered s (state_in b) n
in_bytes {s} {n} b h w = subst (λ (o : Option State). Entered s o n) (sym (state_in_lem b h)) w

pub closed_in : (b : List ℕ) (h : Heading) → h ≡ heading_from b → h.closed ≡ (state_from b).closed
unfolding state_from
closed_in b h e = ap (λ (x : Heading). x.closed) e

pub state_none : (b : List ℕ) → (length b ≡ state_width → ⊥) → state_in b ≡ none
state_none b h = ap (λ (t : Bool). cond t (some (state_from b)) none) (ne_eqb (length b) state_width h)

pub bytes_may : (s b : List ℕ) (n : ℕ) → Entered s (state_in b) n → n ≡ 0 → (length b ≡ state_width) × MayRun s (state_from b)
bytes_may s b n e h =
    let (z, (q, m)) = entered_run e h in
    let l : length b ≡ state_width = by z (eqb (length b) state_width) refl q in
    (l, subst (MayRun s) (some_inj (sym q ∙ state_in_lem b l)) m)
  where
    by : (z : State) (t : Bool) → eqb (length b) state_width ≡ t → cond t (some (state_from b)) none ≡ some z → length b ≡ state_width
    by z true i q = eqb-true (length b) state_width i
    by z false i q = absurd (none_some z q)

-- bytes written over all of the memory are what it then holds
pub all_written : (memory new after : List ℕ) (r : ℕ) → length memory ≡ state_width → Wrote state_width memory 0 new after r → after ≡ new
all_written memory new after r h w =
    let n : length new ≡ length memory = w.wide ∙ sym h in
    w.left ∙ put_all memory 0 new (omega arith) ∙ ap (λ (l : List ℕ). new ++ l) (drop_of_length-le memory {i = 0 + length new} (omega arith)) ∙ append-nil new

pub all_put_in : (new after : List ℕ) (r : ℕ) → Wrote state_width (replicate state_width 0) 0 new after r → after ≡ new
all_put_in new after r w = all_written (replicate state_width 0) new after r (length-replicate {A = ℕ} state_width 0) w

-- where the state stands at the end of a stream
module _ (z : State) where
  still_open : Shaped z → 0 < z.depth → at_end (meaning_of z).control ≡ 27
  unfolding meaning_of
  still_open w h = ap (λ (fs : List Frame). at_end (standing z.rooted fs)) (first_last bare_frame z.frames z.depth h (omega (arith, w.deep, w.frames)))

  none_open : z.depth ≡ 0 → at_end (meaning_of z).control ≡ cond z.rooted 0 27
  unfolding meaning_of
  none_open h = ap (λ (n : ℕ). at_end (standing z.rooted (reverse (take n z.frames)))) h ∙ by z.rooted
    where
      by : (b : Bool) → at_end (standing b []) ≡ cond b 0 27
      by true = refl
      by false = refl

pub begun_more : (more : Bool) (left : ℕ) (c : Control) → more ≡ true → number_at more left c Begun ≡ some 16
begun_more more left c e = ap (λ (b : Bool). number_at b left c Begun) e

pub begun_left : (more : Bool) (left : ℕ) (c : Control) → more ≡ false → 0 < left → number_at more left c Begun ≡ some 27
begun_left more zero c e h = absurd (omega arith)
begun_left more (suc left) c e h = ap (λ (b : Bool). number_at b (suc left) c Begun) e

begun_end : (more : Bool) (left : ℕ) (c : Control) → more ≡ false → left ≡ 0 → number_at more left c Begun ≡ some (at_end c)
begun_end more left c e h = ap₂ (λ (b : Bool) (n : ℕ). number_at b n c Begun) e h

pub begun_open : (more : Bool) (left : ℕ) (z : State) → more ≡ false → left ≡ 0 → Shaped z → 0 < z.depth → number_at more left (meaning_of z).control Begun ≡ some 27
begun_open more left z e h w d = begun_end more left (meaning_of z).control e h ∙ ap some (still_open z w d)

pub begun_closed : (more : Bool) (left : ℕ) (z : State) → more ≡ false → left ≡ 0 → z.depth ≡ 0 → number_at more left (meaning_of z).control Begun ≡ some (cond z.rooted 0 27)
begun_closed more left z e h d = begun_end more left (meaning_of z).control e h ∙ ap some (none_open z d)

-- what is handed back with a number
pub left_open : (n : ℕ) (h : Live) → (n ≡ 16) ⊎ (n ≡ 17) → h ≡ left_live n h
left_open n h (inl e) = ap (λ (b : Bool). cond (b || eqb n 17) h (closed_live h n)) (sym (eq-eqb n 16 e))
left_open n h (inr e) =
    ap₂ (λ (b b' : Bool). cond (b || b') h (closed_live h n)) (sym (ne_eqb n 16 (λ q. omega (arith, e, q)))) (sym (eq-eqb n 17 e))

pub left_closed : (n : ℕ) (h : Live) → (n ≡ 16 → ⊥) → (n ≡ 17 → ⊥) → closed_live h n ≡ left_live n h
left_closed n h k w = ap₂ (λ (b b' : Bool). cond (b || b') h (closed_live h n)) (sym (ne_eqb n 16 k)) (sym (ne_eqb n 17 w))
