-- A call of the salvage run over bytes has one answer, to the byte: the sheet is one, so its two tags are; what gives all back as it was has one number; and a run has one answer.
-- Assumes nothing.
use mathlib.Core.Path.{◌≡◌, refl, sym, ap, ◌∙◌, subst}
use mathlib.Core.Bool.{Bool, not}
use mathlib.Core.List.{List, ◌++◌}
use mathlib.Core.Option.{Option, some, none-ne-some as none_some}
use Prim.Native.Nat.{ℕ, ◌/◌, ◌≤◌}
use native.Mathlib.Omega.{arith}
use lib.ListN.{length, drop}
use Rattle.expressions.specs.FaultList.{passes}
use Rattle.sheet.specs.Sheet.{Sheet, IsSheet}
use Rattle.sheet.proofs.SheetLaws.{one_sheet}
use Rattle.faults.specs.Verdict.{VerdictIs, of_sheet}
use Rattle.faults.proofs.Theorems.{one_verdict}
use Rattle.runs.specs.Taken.{Passed}
use Rattle.calls.specs.Call.{again}
use Rattle.salvage.specs.Shape.{RecordTags}
use Rattle.salvage.specs.Shaped.{record_tags}
use Rattle.rescue.specs.Held.{Rescued}
use Rattle.rescue.specs.Call.{RescueCalled}
use Rattle.rescue.proofs.One.{one_rescue}
use Rattle.state.specs.Bytes.{state_from}
use Rattle.converter.proofs.Replies.{some_inj}
use Rattle.rescued.specs.declared.SalvageCounts.{SalvageCounts}
use Rattle.rescued.specs.Bytes.{salvage_in, salvage_bytes, area_after, entry_width, report_bytes}
use Rattle.rescued.specs.Fits.{SalvageFits}
use Rattle.rescued.specs.Salvaged.{Lent, SalvageGivenBack, sheet_fails, no_records, unfit, closed, Put, SalvageRan, as_given, runs, OneSalvaged}

-- o is what stands first in the lent memory
same_put : {lent after after' o o' : List ℕ} → o ≡ o' → Put lent after o → Put lent after' o' → after ≡ after'
same_put {lent} e p p' = p.left ∙ ap (λ (o : List ℕ). o ++ drop (length o) lent) e ∙ sym p'.left

same_counts : {r q : SalvageCounts} → r.number ≡ q.number → r.taken ≡ q.taken → r.written ≡ q.written → r.reported ≡ q.reported → r.waited ≡ q.waited → r.visits ≡ q.visits → r ≡ q
same_counts n t w p k v = λ i. record { number = n i; taken = t i; written = w i; reported = p i; waited = k i; visits = v i }

abbrev FitsIn : List ℕ → Lent → Sheet → Type 0
FitsIn part l a = SalvageFits a l.state (length l.area) (length part)

module _ {s : List ℕ} {a : Sheet} (i : IsSheet s a) where
  -- the tags are the sheet's, and the state fits the sheet
  tagged : {b : Sheet} {o : Option RecordTags} → IsSheet s b → record_tags b ≡ o → record_tags a ≡ o
  tagged j e = ap record_tags (one_sheet i j) ∙ e

  fits_here : (part : List ℕ) (l : Lent) {b : Sheet} → IsSheet s b → FitsIn part l b → FitsIn part l a
  fits_here part l j f = subst (FitsIn part l) (one_sheet j i) f

  module _ (ok : Passed a) where
    not_failed : {n : ℕ} → 1 ≤ n → VerdictIs s n → ⊥
    not_failed h v = omega (arith, h, one_verdict v (of_sheet a i (passes ok.keeps_T ok.keeps_S)))

    -- under a sheet of the shape that the state fits, what is given back was closed
    given_closed : {part : List ℕ} {l : Lent} {x : RecordTags} {n : ℕ} → record_tags a ≡ some x → FitsIn part l a → SalvageGivenBack s part l n →
        (m : ℕ) × ((salvage_in l.state l.area).closing ≡ some m) × (n ≡ again m)
    given_closed e f (sheet_fails h v) = absurd (not_failed h v)
    given_closed {x = x} e f (no_records b j k o) = absurd (none_some x (sym (tagged j o) ∙ e))
    given_closed {part} {l} e f (unfit b y j k o w) = absurd (w (subst (FitsIn part l) (one_sheet i j) f))
    given_closed e f (closed b y j k o g m h) = (m, h, refl)

one_given : {s part : List ℕ} {l : Lent} {m n : ℕ} → SalvageGivenBack s part l m → SalvageGivenBack s part l n → m ≡ n
one_given (sheet_fails h v) (sheet_fails k w) = one_verdict v w
one_given (sheet_fails h v) (no_records b j k o) = absurd (not_failed j k h v)
one_given (sheet_fails h v) (unfit b y j k o w) = absurd (not_failed j k h v)
one_given (sheet_fails h v) (closed b y j k o f n c) = absurd (not_failed j k h v)
one_given (no_records a i ok e) (sheet_fails h v) = absurd (not_failed i ok h v)
one_given (no_records a i ok e) (no_records b j k o) = refl
one_given (no_records a i ok e) (unfit b y j k o w) = absurd (none_some y (sym e ∙ tagged i j o))
one_given (no_records a i ok e) (closed b y j k o f n c) = absurd (none_some y (sym e ∙ tagged i j o))
one_given (unfit a x i ok e u) (sheet_fails h v) = absurd (not_failed i ok h v)
one_given (unfit a x i ok e u) (no_records b j k o) = absurd (none_some x (sym (tagged i j o) ∙ e))
one_given (unfit a x i ok e u) (unfit b y j k o w) = refl
one_given {part = part} {l} (unfit a x i ok e u) (closed b y j k o f n c) = absurd (u (fits_here i part l j f))
one_given (closed a x i ok e g m d) t = let (n, c, q) = given_closed i ok e g t in ap again (some_inj (sym d ∙ c)) ∙ sym q

not_both : {s part : List ℕ} {ended : Bool} {l l' : Lent} {r : SalvageCounts} {n : ℕ} → SalvageGivenBack s part l n → SalvageRan s part ended l l' r → ⊥
not_both g w = let (m, c, e) = given_closed w.is_sheet w.passed w.of_shape w.fits g in none_some m (sym w.is_open ∙ c)

-- two runs
module _ {s part : List ℕ} {ended : Bool} {l l' l'' : Lent} {r q : SalvageCounts} (w : SalvageRan s part ended l l' r) (u : SalvageRan s part ended l l'' q) where
  abbrev Answers : Sheet → RecordTags → Rescued → Type 0
  Answers a x y = RescueCalled a x part (not ended) (length l.area) (length l.output) (length l.report / entry_width) (salvage_in l.state l.area) y

  same_answer : w.answer ≡ u.answer
  same_answer =
      let a = one_sheet w.is_sheet u.is_sheet in
      let x : w.tags ≡ u.tags = some_inj (sym w.of_shape ∙ ap record_tags a ∙ u.of_shape) in
      let c : Answers u.sheet u.tags w.answer = subst (λ (y : RecordTags). Answers u.sheet y w.answer) x (subst (λ (b : Sheet). Answers b w.tags w.answer) a w.called) in
      one_rescue u.sheet u.tags part (not ended) (length l.area) (length l.output) (length l.report / entry_width) (salvage_in l.state l.area) w.answer u.answer c u.called

  same_left : l' ≡ l''
  same_left =
      let e = same_answer in
      let z = w.state ∙ ap (λ (y : Rescued). salvage_bytes y.held) e ∙ sym u.state in
      let o = same_put (ap (λ (y : Rescued). y.output) e) w.output u.output in
      let k = w.area ∙ ap (λ (y : Rescued). area_after l.area y.waited y.held.mode) e ∙ sym u.area in
      let p = same_put (ap (λ (y : Rescued). report_bytes y.report) e) w.report u.report in
      λ i. record { state = z i; output = o i; area = k i; report = p i }

  same_run : (r ≡ q) × (l' ≡ l'')
  same_run =
      let e = same_answer in (
        same_counts (w.number ∙ ap (λ (y : Rescued). y.number) e ∙ sym u.number) (w.taken ∙ ap (λ (y : Rescued). y.taken) e ∙ sym u.taken)
            (w.written ∙ ap (λ (y : Rescued). length y.output) e ∙ sym u.written) (w.reported ∙ ap (λ (y : Rescued). length y.report) e ∙ sym u.reported)
            (w.waited ∙ ap (λ (y : Rescued). y.waited) e ∙ sym u.waited) (w.visits ∙ ap (λ (k : Lent). (state_from k.state).count) same_left ∙ sym u.visits),
        same_left,
      )

-- any two answers are equal, to the byte
pub one_salvaged : OneSalvaged
one_salvaged s part ended l l' l'' r q (as_given g k) (as_given g' k') = (
  same_counts (one_given g g') (k.taken ∙ sym k'.taken) (k.written ∙ sym k'.written) (k.reported ∙ sym k'.reported) (k.waited ∙ sym k'.waited) (k.visits ∙ sym k'.visits),
  k.same ∙ sym k'.same,
)
one_salvaged s part ended l l' l'' r q (as_given g k) (runs u) = absurd (not_both g u)
one_salvaged s part ended l l' l'' r q (runs w) (as_given g k) = absurd (not_both g w)
one_salvaged s part ended l l' l'' r q (runs w) (runs u) = same_run w u
