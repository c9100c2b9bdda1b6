-- What follows from the contract of `perform`: any two answers are equal; a first visit's program is performed as with any recalled values; values
-- stay in bounds. Assumes nothing.
use Rattle.std.specs.Prelude.{Option as Taken, Some, None, IfSome, IsSome}
use mathlib.Core.Path.{◌≡◌, refl, sym, ap, ◌∙◌, subst}
use mathlib.Core.Bool.{false, true≢false}
use mathlib.Core.List.{List}
use mathlib.Core.Logic.{◌⊎◌, ⊎_elim}
use mathlib.Core.Option.{Option, none, some}
use Prim.Native.Nat.{ℕ}
use lib.ListN.{length}
use Rattle.programs.specs.Program.{Program}
use Rattle.programs.specs.Limits.{Visit, first}
use Rattle.programs.specs.Section.{FieldIs, names}
use Rattle.sheet.specs.Sheet.{Sheet, IsSheet}
use Rattle.runs.specs.Execute.{Effect}
use Rattle.runs.specs.Visits.{performed}
use Rattle.runs.specs.Fits.{AllValues}
use Rattle.runs.proofs.Execute.{Fine, execute_fine, recalls_nothing}
use Rattle.runs.proofs.SheetFits.{program_fits, sheet_fits}
use Rattle.visits.specs.Written.{Pen}
use Rattle.visits.specs.Performed.{CameTo, PerformedAs}
use Rattle.visits.specs.declared.Env.{Env}
use Rattle.visits.specs.declared.Performed.{Performed}
use Rattle.visits.proofs.Settling.{no_effect}

env_by : {e f : Env} → e.values ≡ f.values → e.echo ≡ f.echo → e ≡ f
env_by {e} {f} x y = let z : record { values = e.values; echo = e.echo } ≡ f = rw (x, y) refl in z

performed_by : {r q : Performed} → r.at ≡ q.at → r.env ≡ q.env → r ≡ q
performed_by {r} {q} x y = let w : record { at = r.at; env = r.env } ≡ q = rw (x, y) refl in w

module _ (s : List ℕ) (field : ℕ) (kept : List ℕ) (e : Env) (p : Pen) (r : Taken Performed) (d : List ℕ) (R : PerformedAs s field kept e p r d) (a : Sheet) (z : IsSheet s a) where
  abbrev Names : Visit → Option Program → Type 0
  Names v m = FieldIs z.well_formed_lem.programs.programs v field m

  -- any two answers are equal, and so is the memory: in a dry run, and where the program does not reject
  pub one_answer : (q : Taken Performed) (d' : List ℕ) → PerformedAs s field kept e p q d' → (v : Visit) (m : Option Program) → Names v m → (r ≡ q) × ((p.write ≡ false) ⊎ IsSome r → d ≡ d')
  one_answer q d' Q v m f = go (performed a kept m e.values e.echo) r q (R.right a z v m f) (Q.right a z v m f)
    where
      go : (o : Option Effect) (t u : Taken Performed) → CameTo o p t d → CameTo o p u d' → (t ≡ u) × ((p.write ≡ false) ⊎ IsSome t → d ≡ d')
      go o None None x y = (refl, λ w. ⊎_elim (λ b. R.dry b ∙ sym (Q.dry b)) (λ b. absurd (true≢false (sym b))) w)
      go none None (Some u) x y = absurd y
      go none (Some t) u x y = absurd x
      go (some c) None (Some u) x y = absurd (no_effect c (sym x))
      go (some c) (Some t) None x y = absurd (no_effect c (sym y))
      go (some c) (Some t) (Some u) x y = (ap Some (performed_by (x.2.next ∙ sym y.2.next) (env_by (x.0 ∙ sym y.0) (x.1 ∙ sym y.1))), λ w. x.2.left ∙ sym y.2.left)

  -- a first visit has nothing to recall
  pub first_visit_recalls_nothing : (k : List ℕ) (m : Option Program) → Names first m → CameTo (performed a k m e.values e.echo) p r d
  first_visit_recalls_nothing k none f = R.right a z first none f
  first_visit_recalls_nothing k (some q) (names n q₁ S w) =
      subst (λ (o : Option Effect). CameTo o p r d) (recalls_nothing a kept k q w e.values e.echo) (R.right a z first (some q) (names n q S w))

  -- values stay in bounds
  pub values_stay : (v : Visit) (m : Option Program) → Names v m → AllValues kept → AllValues e.values → IfSome r (λ x. AllValues x.env.values)
  values_stay v m f k_fits fits = go (performed a kept m e.values e.echo) r (fine m f) (R.right a z v m f)
    where
      fine : (m : Option Program) → Names v m → Fine (length e.values) (performed a kept m e.values e.echo)
      fine none g = (fits, refl, tt)
      fine (some q) (names n q₁ S w) =
          execute_fine a (sheet_fits z).names_fit kept k_fits q (program_fits z v field (some q) (names n q S w)).0.fits e.values e.echo fits

      go : (o : Option Effect) (t : Taken Performed) → Fine (length e.values) o → CameTo o p t d → IfSome t (λ x. AllValues x.env.values)
      go o None g c = tt
      go none (Some t) g c = absurd c
      go (some x) (Some t) g c = subst AllValues (sym c.0) g.0
