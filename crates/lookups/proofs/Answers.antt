-- Any two answers of a well-formed sheet are equal: its bytes are a sheet, of which both speak.
-- Assumes nothing.
use mathlib.Core.Path.{◌≡◌, sym, ◌∙◌}
use mathlib.Core.Bool.{Bool}
use mathlib.Core.List.{List}
use Prim.Native.Nat.{ℕ}
use Rattle.std.specs.Prelude.{Option as Answered}
use Rattle.sheet.specs.Defect.{WellFormed}
use Rattle.sheet.proofs.SheetLaws.{is_sheet}
use Rattle.lookups.specs.Found.{TagFound, ProductionFound, BlanksTold}

module _ {s : List ℕ} (w : WellFormed s) where
  pub one_tag : (name : List ℕ) (a b : Answered ℕ) → TagFound s name a → TagFound s name b → a ≡ b
  one_tag name a b h k = let z = is_sheet w in h.is z.0 z.1 ∙ sym (k.is z.0 z.1)

  pub one_production_for : (n t : ℕ) (a b : Answered ℕ) → ProductionFound s n t a → ProductionFound s n t b → a ≡ b
  one_production_for n t a b h k = let z = is_sheet w in h.is z.0 z.1 ∙ sym (k.is z.0 z.1)

  pub one_blanks : (q : ℕ) (a b : Bool) → BlanksTold s q a → BlanksTold s q b → a ≡ b
  one_blanks q a b h k = let z = is_sheet w in h.is z.0 z.1 ∙ sym (k.is z.0 z.1)
