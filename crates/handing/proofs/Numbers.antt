-- Every number that a salvage call answers is one of the table's, or 34.
-- Assumes nothing.
use mathlib.Core.Path.{◌≡◌, refl, sym, subst}
use mathlib.Core.Logic.{◌⊎◌, inl, inr}
use mathlib.Core.Bool.{Bool, true, false, not, ◌||◌}
use mathlib.Core.List.{List}
use mathlib.Core.Option.{Option}
use Prim.Native.Nat.{ℕ, ◌+◌, ◌/◌}
use native.Mathlib.Omega.{arith}
use lib.Dec.{eqb}
use lib.ListN.{length}
use borrow.Author.Tests.{eqb-true}
use Rattle.layout.specs.Layout.{byte_at}
use Rattle.faults.proofs.Theorems.{verdict_most}
use Rattle.runs.specs.Closing.{Closing, closed_by_end, closed_by_refusal, closed_by_count}
use Rattle.salvage.proofs.Shaped.{shape_decided}
use Rattle.rescue.specs.Step.{Setting}
use Rattle.rescue.specs.Call.{setting, RescuedBy}
use Rattle.state.specs.Bytes.{long_at, state_from}
use Rattle.converter.specs.Answered as converter
use Rattle.converter.specs.Promises.{InTable}
use Rattle.converter.proofs.Replies.{given_number}
use Rattle.rescued.specs.declared.SalvageCounts.{SalvageCounts}
use Rattle.rescued.specs.Bytes.{mode_at, passed_at, entry_width, mode_from, salvage_in}
use Rattle.rescued.specs.Salvaged.{Lent, SalvageGivenBack, sheet_fails, no_records, unfit, closed, SalvageRan, as_given, runs}
use Rattle.handing.specs.Promises.{SalvageNumbers}
use Rattle.handing.proofs.Modes.{HoldsAt}
use Rattle.handing.proofs.Deep.{Known, run_known}
use Rattle.handing.proofs.Again.{from_fits}
use Rattle.handing.proofs.Fits.{from_fits_deep}

closing_in : {n : ℕ} → Closing n → InTable n
closing_in closed_by_end = inl (omega arith)
closing_in (closed_by_refusal h k) = inr (inr (inr (h, omega arith)))
closing_in closed_by_count = inr (inr (inr (omega arith, omega arith)))

known_in : (n : ℕ) → Known n → InTable n
known_in n (inr k) = closing_in k
known_in n (inl e) = by (eqb n 16) refl (eqb n 17) refl e
  where
    by : (b : Bool) → eqb n 16 ≡ b → (c : Bool) → eqb n 17 ≡ c → (b || c) ≡ true → InTable n
    by true p c q h = inr (inl (eqb-true n 16 p))
    by false p true q h = inr (inr (inl (eqb-true n 17 q)))
    by false p false q h = absurd (let y : ◌≡◌ {A = ℕ} 0 1 = cc in omega arith)

given_in : {s part : List ℕ} {l : Lent} {n : ℕ} → SalvageGivenBack s part l n → InTable n ⊎ (n ≡ 34)
given_in (sheet_fails h v) = inl (inl (verdict_most v))
given_in (no_records a i ok e) = inr refl
given_in (unfit a x i ok e u) = inl (inr (inr (inr (omega arith, omega arith))))
given_in {l = l} (closed a x i ok e f n c) = inl (given_number (converter.closed a i ok (state_from l.state) refl f.run n c))

ran_in : {s part : List ℕ} {ended : Bool} {l l' : Lent} {r : SalvageCounts} → SalvageRan s part ended l l' r → InTable r.number
ran_in {s} {part} {ended} {l} w =
    let i = w.is_sheet in
    let b = l.state in
    let d = subst (λ (o : Option ℕ). RescuedBy w.sheet w.tags part (not ended) (length l.area) (length l.output) (length l.report / entry_width) (salvage_in b l.area) o w.answer)
    w.is_open w.called in
    let c : Setting = setting w.sheet w.tags part (not ended) (long_at b passed_at) (length l.area) in
    let (n, shape) = (shape_decided w.sheet).gives w.tags w.of_shape in
    let h = subst (λ (p : ℕ). HoldsAt c i p (mode_from b l.area (byte_at b mode_at))) (add_none (long_at b passed_at))
    (from_fits i w.tags part (not ended) l.area b (length part) w.fits) in
    subst InTable (sym w.number)
    (known_in w.answer.number
    (run_known c i n shape d (omega arith) h (from_fits_deep i l.area b (length part) w.fits)))
  where
    add_none : (n : ℕ) → n ≡ n + 0
    add_none n = omega arith

pub salvage_numbers : SalvageNumbers
salvage_numbers s part ended l l' r (as_given g u) = given_in g
salvage_numbers s part ended l l' r (runs w) = inl (ran_in w)
