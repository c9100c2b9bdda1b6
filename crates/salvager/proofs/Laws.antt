-- The tests of a salvage call, one after another.
-- Assumes nothing.
use mathlib.Core.Path.{◌≡◌, refl, sym, ap, subst, ◌∙◌}
use mathlib.Core.Bool.{Bool, true, false, not, cond}
use mathlib.Core.List.{List}
use mathlib.Core.Option.{Option, none, some}
use Prim.Native.Nat.{ℕ, zero, suc, ◌≤◌}
use native.Mathlib.Omega.{arith}
use lib.Dec.{eqb}
use lib.ListN.{length}
use borrow.Author.Tests.{ne_eqb, not-true, not-false}
use Rattle.tells.specs.Tells.{Tells, holds, fails}
use Rattle.faults.specs.Verdict.{VerdictIs}
use Rattle.sheet.specs.Sheet.{Sheet, IsSheet}
use Rattle.calls.specs.Call.{again}
use Rattle.salvage.specs.Shape.{RecordTags}
use Rattle.salvage.specs.Shaped.{record_tags}
use Rattle.state.specs.Bytes.{state_from}
use Rattle.state.specs.Changes.{not_closed}
use Rattle.converter.specs.Answered.{closing_in}
use Rattle.converter.proofs.Entering.{PassedSheet, passed_sheet}
use Rattle.shapes.specs.declared.Shape.{Shape}
use Rattle.std.specs.Prelude.{Option as Answered, Some, None}
use Rattle.shapes.specs.Told.{tags_seen, ShapeTold}
use Rattle.holding.specs.Told.{SalvageTold}
use Rattle.rescued.specs.Fits.{SalvageFits}
use Rattle.rescued.specs.Salvaged.{sheet_fails, no_records, unfit, closed}
use Rattle.salvager.specs.Entered.{MaySalvage, SalvageEntered, may_run, given_back}

true_false : ◌≡◌ {A = Bool} true false → ⊥
true_false e = let z : ◌≡◌ {A = ℕ} 0 1 = cc in omega arith

again_some : (k : ℕ) → 1 ≤ again k
again_some zero = omega arith
again_some (suc k) = omega arith

module _ {s : List ℕ} (b area part : List ℕ) {n : ℕ} (v : VerdictIs s n) where
  pub fails_first : (n ≡ 0 → ⊥) → SalvageEntered s b area part n
  fails_first h = let k : 1 ≤ n = omega arith in given_back k (λ o r. sheet_fails k v)

  module _ (z : n ≡ 0) {x : Answered Shape} (T : ShapeTold s x) where
    abbrev P : PassedSheet s
    P = passed_sheet v z

    pub other_shape : x ≡ None → SalvageEntered s b area part 34
    other_shape e = given_back {n = 34} (omega arith) (λ o r. no_records P.sheet P.is_sheet P.passed (sym (sym (ap tags_seen e) ∙ T.is P.sheet P.is_sheet)))

    module _ (y : Shape) (e : x ≡ Some y) where
      abbrev tags : RecordTags
      tags = record { root_tag = y.root_tag; record_tag = y.record_tag }

      shaped : record_tags P.sheet ≡ some tags
      shaped = sym (sym (ap tags_seen e) ∙ T.is P.sheet P.is_sheet)

      does_not : {r : Bool} → Tells (SalvageFits P.sheet b (length area) (length part)) r → r ≡ false → SalvageFits P.sheet b (length area) (length part) → ⊥
      does_not (holds h) q f = true_false q
      does_not (fails h) q f = h f

      does : {r : Bool} → Tells (SalvageFits P.sheet b (length area) (length part)) r → r ≡ true → SalvageFits P.sheet b (length area) (length part)
      does (holds h) q = h
      does (fails h) q = absurd (true_false (sym q))

      module _ {r : Bool} (F : SalvageTold s b (length area) (length part) r) where
        pub is_unfit : not r ≡ true → SalvageEntered s b area part 29
        is_unfit q = given_back {n = 29} (omega arith) (λ o w. unfit P.sheet tags P.is_sheet P.passed shaped (does_not (F.tells P.sheet P.is_sheet) (not-true r q)))

        pub is_closed : not r ≡ false → (k m : ℕ) → k ≡ (state_from b).closed → (k ≡ not_closed → ⊥) → m ≡ again k → SalvageEntered s b area part m
        is_closed q k m ke d me =
            subst (SalvageEntered s b area part) (sym me)
            (given_back (again_some k)
            (λ o w. closed P.sheet tags P.is_sheet P.passed shaped (does (F.tells P.sheet P.is_sheet) (not-false r q)) k (ap closing_in (sym ke) ∙ ap (λ (y : Bool). cond y none (some k)) (ne_eqb k not_closed d))))

        pub runs : not r ≡ false → (k : ℕ) → k ≡ (state_from b).closed → k ≡ not_closed → SalvageEntered s b area part 0
        runs q k ke e =
            may_run (record { sheet = P.sheet; tags = tags; is_sheet = P.is_sheet; passed = P.passed; of_shape = shaped; fits = does (F.tells P.sheet P.is_sheet) (not-false r q); is_open = sym ke ∙ e })
