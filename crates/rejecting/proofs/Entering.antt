-- The tests before the token is looked at: where one fails nobody is named (`failing_none`, `unfit_none`, `no_token_none`); where none does, the run is ready over the
-- bytes of the state (`ready_here`), and what is answered of it is answered of the state (`answered_here`).
-- Assumes nothing.
use mathlib.Core.Path.{◌≡◌, sym, ap, ◌∙◌, subst}
use mathlib.Core.Bool.{Bool, false, true, not}
use mathlib.Core.List.{List}
use Prim.Native.Nat.{ℕ, ◌-◌, ◌≤◌}
use native.Mathlib.Omega.{arith}
use lib.ListN.{length, take, drop, length-drop}
use lib.Seq.{take_all}
use Rattle.tells.proofs.Laws.{held, failed}
use Rattle.tokens.specs.declared.Cursor.{Cursor}
use Rattle.tokens.specs.declared.Event.{Event}
use Rattle.tokens.specs.declared.Answer.{Answer}
use Rattle.tokens.specs.declared.Answer.TheVariants.{Token}
use Rattle.tokens.specs.Stream.{ReadAs}
use Rattle.tokens.proofs.Streams.{read_one}
use Rattle.expressions.specs.FaultList.{passes}
use Rattle.sheet.specs.Sheet.{Sheet, IsSheet}
use Rattle.sheet.proofs.SheetLaws.{one_sheet, sheet_grammar}
use Rattle.faults.specs.Verdict.{VerdictIs, of_sheet}
use Rattle.faults.proofs.Theorems.{one_verdict}
use Rattle.runs.specs.Taken.{Passed}
use Rattle.runs.specs.Visits.{most_visits}
use Rattle.runs.specs.Acts.{Act}
use Rattle.runs.specs.Machine.{Configuration as Standing}
use Rattle.calls.specs.Names.{token_of}
use Rattle.fit.specs.RunFits.{RunFits}
use Rattle.fit.specs.Tests.{FitTold}
use Rattle.fit.proofs.Theorems.{fits_sheet, fit_shaped}
use Rattle.fit.proofs.RunsFit.{fit_run}
use Rattle.state.specs.Bounds.{head_width, state_width}
use Rattle.state.specs.Bytes.{state_from}
use Rattle.state.specs.Changes.{tidied}
use Rattle.state.specs.Meaning.{meaning_of, Shaped}
use Rattle.state.specs.declared.State.{State}
use Rattle.state.proofs.Widths.{read_sized}
use Rattle.state.proofs.Tidy.{meaning_tidied, shaped_tidied}
use Rattle.live.specs.declared.Live.{Live}
use Rattle.live.specs.Live.{full}
use Rattle.steps.specs.Parts.{ReadyAt}
use Rattle.converter.specs.Answered.{FitsSheet}
use Rattle.converter.proofs.Entering.{passed_sheet}
use Rattle.rejecting.specs.First.{TokenRejects}
use Rattle.rejecting.specs.Named.{Rejects, RejectedBy, by_act, by_nobody}
use Rattle.rejecting.specs.Told.{AnswersFor, names, nobody}
use Rattle.rejecting.specs.declared.Rejecter.{Rejecter}
use Rattle.rejecting.specs.declared.Rejecter.TheVariants.{Nobody}

module _ {s : List ℕ} {z : State} {part : List ℕ} {r : Rejecter} (e : r ≡ Nobody) where
  pub failing_none : {n : ℕ} → VerdictIs s n → (n ≡ 0 → ⊥) → RejectedBy s z part r
  failing_none v h = by_nobody (λ a R. h (one_verdict v (of_sheet R.sheet R.is_sheet (passes R.passed.keeps_T R.passed.keeps_S)))) e

  pub unfit_none : {y : State} {t : Bool} → y ≡ z → FitTold s y t → not t ≡ true → RejectedBy s z part r
  unfit_none {y} {t} q T h = by_nobody (λ a R. failed (fits_sheet R.is_sheet y t T) h (subst (FitsSheet R.sheet) (sym q) R.fits)) e

  pub no_token_none : (x : Answer) → ReadAs false part 0 x → ((y : Event) (next : Cursor) → x ≡ Token y next → ⊥) → RejectedBy s z part r
  no_token_none x m w = by_nobody (λ a R. w R.event R.next (read_one false part 0 x (Token R.event R.next) m R.read)) e

-- the frames of the bytes b, as they are lent
abbrev lent_frames : List ℕ → List ℕ
lent_frames b = take (state_width - head_width) (drop head_width b)

module _ {s : List ℕ} {n : ℕ} (v : VerdictIs s n) (passing : n ≡ 0) (b : List ℕ) (wide : length b ≡ state_width) {t : Bool} (T : FitTold s (state_from b) t) (fit : not t ≡ false) where
  abbrev a : Sheet
  a = (passed_sheet v passing).sheet

  is_a : IsSheet s a
  is_a = (passed_sheet v passing).is_sheet

  fits_a : FitsSheet a (state_from b)
  fits_a = held (fits_sheet is_a (state_from b) t T) fit

  pub shaped_here : Shaped (state_from b)
  shaped_here = fit_shaped s _ (sheet_grammar is_a) a.start_nonterminal (state_from b) (read_sized b (omega (arith, fits_a.count)) (omega (arith, fits_a.few))) fits_a

  runs_a : RunFits a (meaning_of (state_from b))
  runs_a = fit_run is_a (state_from b) (read_sized b (omega (arith, fits_a.count)) (omega (arith, fits_a.few))) fits_a

  module _ (h : Live) (e : full h (drop head_width b) ≡ tidied (state_from b)) where
    is_tidied : full h (lent_frames b) ≡ tidied (state_from b)
    is_tidied = ap (full h) (take_all (state_width - head_width) (drop head_width b) (omega (arith, wide, length-drop head_width b))) ∙ e

    means : meaning_of (full h (lent_frames b)) ≡ meaning_of (state_from b)
    means = ap meaning_of is_tidied ∙ meaning_tidied (state_from b) shaped_here

    pub ready_here : ReadyAt s h (lent_frames b)
    ready_here =
        record {
          ready = record {
            sheet = a;
            is_sheet = is_a;
            passed = (passed_sheet v passing).passed;
            shaped = subst Shaped (sym is_tidied) (shaped_tidied (state_from b) shaped_here);
            fits = subst (RunFits a) (sym means) runs_a;
          };
          long = omega (arith, wide, length-drop head_width b, ap length (take_all (state_width - head_width) (drop head_width b) (omega (arith, wide, length-drop head_width b))));
        }

    pub count_here : h.count ≤ most_visits
    count_here = omega (arith, fits_a.count, ap (λ (y : State). y.count) is_tidied)

    pub answered_here : {z : State} {part : List ℕ} {y : Event} {next : Cursor} {r : Rejecter} → state_from b ≡ z → ReadAs false part 0 (Token y next) → AnswersFor s part y (full h (lent_frames b)) r →
        RejectedBy s z part r
    answered_here {z} {part} {y} {next} q m (names d i c X k) =
        by_act c
        (record {
          sheet = d;
          is_sheet = i;
          passed = subst Passed (one_sheet is_a i) (passed_sheet v passing).passed;
          fits = subst (FitsSheet d) q (subst (λ (x : Sheet). FitsSheet x (state_from b)) (one_sheet is_a i) fits_a);
          event = y;
          next = next;
          read = m;
          rejects = subst (λ (x : Standing). TokenRejects d x (token_of d part y) c) (means ∙ ap meaning_of q) X;
        }) k
    answered_here {z} {part} {y} {next} q m (nobody g k) = by_nobody (λ c R. g R.sheet R.is_sheet c (here c R)) k
      where
        here : (c : Act) (R : Rejects s z part c) → TokenRejects R.sheet (meaning_of (full h (lent_frames b))) (token_of R.sheet part y) c
        here c R =
            let w = read_one false part 0 (Token R.event R.next) (Token y next) R.read m in
            let e : R.event ≡ y = cc in
            subst (λ (x : Event). TokenRejects R.sheet (meaning_of (full h (lent_frames b))) (token_of R.sheet part x) c) e
            (subst (λ (x : Standing). TokenRejects R.sheet x (token_of R.sheet part R.event) c) (sym (means ∙ ap meaning_of q)) R.rejects)
