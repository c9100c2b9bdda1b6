-- What a call that runs begins with: the two byte strings at which reading resumes, and a state that can be read; and what the tests before it tell.
-- Assumes nothing.
use mathlib.Core.Path.{◌≡◌, refl, sym, ap, subst, ◌∙◌}
use mathlib.Core.Bool.{Bool, true, false}
use mathlib.Core.List.{List}
use mathlib.Core.Option.{Option, none, some, none-ne-some as none_some}
use Prim.Native.Nat.{ℕ, zero, suc, ◌+◌, ◌^◌, ◌≤◌, ◌<◌}
use native.Mathlib.Omega.{arith}
use lib.ListN.{length, take}
use Rattle.layout.specs.Layout.{byte_at}
use Rattle.sheet.specs.Sheet.{Sheet, IsSheet, grammar_of}
use Rattle.sheet.proofs.SheetLaws.{sheet_grammar}
use Rattle.fit.proofs.Theorems.{fit_shaped}
use Rattle.salvage.specs.Shape.{RecordTags}
use Rattle.salvage.specs.Shaped.{record_tags}
use Rattle.salvage.specs.Resumption.{record_start, root_end}
use Rattle.shapes.specs.declared.Shape.{Shape}
use Rattle.std.specs.Prelude.{Option as Answered, Some, None}
use Rattle.shapes.specs.Told.{tags_seen, ShapeTold}
use Rattle.shapes.specs.Marks.{TagThere, MarkPut, MarksResume}
use Rattle.shapes.proofs.Marking.{tags_there}
use Rattle.state.specs.Bytes.{state_from}
use Rattle.state.specs.Meaning.{Shaped}
use Rattle.state.proofs.Widths.{read_sized}
use Rattle.converter.specs.Answered.{FitsSheet}
use Rattle.converter.proofs.Replies.{some_inj}
use Rattle.rescued.specs.Bytes.{mode_at, returning_bytes, returning_in}
use Rattle.rescued.specs.Fits.{ModeFits}
use Rattle.rescued.specs.Salvaged.{SalvageGivenBack, SalvagedAs, as_given}
use Rattle.rescued.specs.declared.SalvageCounts.{SalvageCounts}
use Rattle.turns.specs.Stands.{Grounds}
use Rattle.rescuer.specs.Ran.{ResumptionIs}
use Rattle.salvager.specs.Entered.{MaySalvage, SalvageEntered, may_run, given_back}
use Rattle.salvages.specs.Lending.{lending, untouched_with}

-- a state that is read of bytes, and fits, can be read
shaped_of : {s : List ℕ} {a : Sheet} → IsSheet s a → (b : List ℕ) → FitsSheet a (state_from b) → Shaped (state_from b)
shaped_of {s} {a} G b F = fit_shaped s (grammar_of a.rules) (sheet_grammar G) a.start_nonterminal (state_from b) (read_sized b (omega (arith, F.count)) (omega (arith, F.few))) F

module _ {s b area part : List ℕ} (M : MaySalvage s b area part) where
  pub shaped_run : Shaped (state_from b)
  shaped_run = shaped_of M.is_sheet b M.fits.run

  pub shaped_returning : byte_at b mode_at ≡ 1 → Shaped (returning_in b)
  shaped_returning e = shaped_of M.is_sheet (returning_bytes b) (subst (ModeFits M.sheet b (length area)) e M.fits.mode).returns

  module _ (root tag : ℕ) (T : ShapeTold s (Some (record { root_tag = root; record_tag = tag }))) where
    abbrev tags : RecordTags
    tags = record { root_tag = root; record_tag = tag }

    marks : {a : Sheet} → IsSheet s a → MarksResume s a tags
    marks {a} i = tags_there s a i tags (sym (T.is a i))

    pub record_there : TagThere s tag
    record_there = (marks M.is_sheet).record_there

    pub root_there : TagThere s root
    root_there = (marks M.is_sheet).root_there

    pub grounds_here : Grounds s tag
    grounds_here = record { sheet = M.sheet; is_sheet = M.is_sheet; passed = M.passed; tags = tags; of_shape = sym (T.is M.sheet M.is_sheet); record_is = refl }

    same_tags : (G : Grounds s tag) → tags ≡ G.tags
    same_tags G = some_inj (T.is G.sheet G.is_sheet ∙ G.of_shape)

    pub marked_here : (start end : List ℕ) (n k : ℕ) → MarkPut s tag false start n → MarkPut s root true end k → ResumptionIs s tag (take n start) (take k end)
    marked_here start end n k P Q =
        record {
          start_is = λ G. P.is G.sheet G.is_sheet ∙ (marks G.is_sheet).record_start_lem ∙ ap (record_start G.sheet) (same_tags G);
          end_is = λ G. Q.is G.sheet G.is_sheet ∙ (marks G.is_sheet).root_end_lem ∙ ap (root_end G.sheet) (same_tags G);
        }

-- ---- the tests
module _ {s b area part : List ℕ} where
  pub entered_run : {n : ℕ} → SalvageEntered s b area part n → n ≡ 0 → MaySalvage s b area part
  entered_run (may_run m) e = m
  entered_run (given_back k f) e = absurd (omega arith)

  entered_back : {n : ℕ} → SalvageEntered s b area part n → (n ≡ 0 → ⊥) → (out rep : List ℕ) → SalvageGivenBack s part (lending b out area rep) n
  entered_back (may_run m) h out rep = absurd (h refl)
  entered_back (given_back k f) h out rep = f out rep

  pub no_other : {n : ℕ} → SalvageEntered s b area part n → n ≡ 0 → {x : Answered Shape} → ShapeTold s x → x ≡ None → ⊥
  no_other E e T q = let m = entered_run E e in none_some m.tags (sym (ap tags_seen q) ∙ T.is m.sheet m.is_sheet ∙ m.of_shape)

  pub back_untouched : {n : ℕ} → SalvageEntered s b area part n → (n ≡ 0 → ⊥) → (ended : Bool) (out rep : List ℕ) {r : SalvageCounts} → r ≡ untouched_with n b →
      SalvagedAs s part ended (lending b out area rep) (lending b out area rep) r
  back_untouched {n} E h ended out rep q =
      subst (SalvagedAs s part ended (lending b out area rep) (lending b out area rep)) (sym q)
      (as_given (entered_back E h out rep) (record { taken = refl; written = refl; reported = refl; waited = refl; visits = refl; same = refl }))
