-- Well-formed sheets, and the numbers 1 to 7: tested in number order, each over the whole sheet. Assumes nothing.
use Rattle.std.specs.Prelude.{List, ℕ}
use Rattle.programs.specs.Bounds.{Bounds, bounds}
use Rattle.layout.specs.Layout.{Size, Sections}
use Rattle.sheet.specs.Tags.{Tags}
use Rattle.sheet.specs.Productions.{Productions}
use Rattle.trees.specs.Trees.{Trees}
use Rattle.sheet.specs.Fields.{ProgramsIn}
use Rattle.sheet.specs.Grounded.{Grounded}

-- with the bounds b
pub record WellFormedIn (b : Bounds) (s : List ℕ) : Type 0 where
  pub size : Size s
  pub sections : Sections s
  pub tags : Tags s
  pub productions : Productions s
  pub trees : Trees s
  pub programs : ProgramsIn b s
  pub grounded : Grounded s

-- the number of the first test that the sheet does not keep; 0 where it keeps all
pub data DefectIsIn (b : Bounds) (s : List ℕ) : ℕ → Type 0 where
  well_formed_lem : WellFormedIn b s → DefectIsIn b s 0
  its_size : (Size s → ⊥) → DefectIsIn b s 1
  its_sections : Size s → (Sections s → ⊥) → DefectIsIn b s 2
  a_tag : Size s → Sections s → (Tags s → ⊥) → DefectIsIn b s 3
  a_production : Size s → Sections s → Tags s → (Productions s → ⊥) → DefectIsIn b s 4
  a_tree : Size s → Sections s → Tags s → Productions s → (Trees s → ⊥) → DefectIsIn b s 5
  a_program : Size s → Sections s → Tags s → Productions s → Trees s → (ProgramsIn b s → ⊥) → DefectIsIn b s 6
  not_grounded : Size s → Sections s → Tags s → Productions s → Trees s → ProgramsIn b s → (Grounded s → ⊥) → DefectIsIn b s 7

abbrev pub WellFormed : List ℕ → Type 0
WellFormed = WellFormedIn bounds

abbrev pub DefectIs : List ℕ → ℕ → Type 0
DefectIs = DefectIsIn bounds
