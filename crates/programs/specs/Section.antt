-- The section of programs, which lie back to back, and the fields that name one. Assumes nothing.
use Rattle.std.specs.Prelude.{◌≡◌, true, List, [], ◌∷◌, ◌++◌, ℕ, length}
use Rattle.std.proofs.Math.Option.{Option, none, some}
use Rattle.programs.specs.Program.{Program, program_bytes}
use Rattle.programs.specs.Bounds.{Bounds, bounds}
use Rattle.programs.specs.Limits.{IsProgramIn, Visit, allowed}

-- programs back to back
abbrev pub back_to_back : List Program → List ℕ
back_to_back [] = []
back_to_back (p ∷ ps) = program_bytes p ++ back_to_back ps

abbrev pub AllProgramsIn : Bounds → ℕ → List ℕ → List Program → Type 0
AllProgramsIn b tags strings [] = Unit {0}
AllProgramsIn b tags strings (p ∷ ps) = IsProgramIn b tags strings p × AllProgramsIn b tags strings ps

-- the section is these programs, which fill it
pub record FillIn (b : Bounds) (tags : ℕ) (strings section : List ℕ) (ps : List Program) : Type 0 where
  pub programs : AllProgramsIn b tags strings ps
  pub filled : section ≡ back_to_back ps

abbrev pub AllPrograms : ℕ → List ℕ → List Program → Type 0
AllPrograms = AllProgramsIn bounds

abbrev pub Fill : ℕ → List ℕ → List ℕ → List Program → Type 0
Fill = FillIn bounds

-- offset o is the start of program p
pub record StartOf (ps : List Program) (o : ℕ) (p : Program) : Type 0 where
  pub before : List Program
  pub after : List Program
  pub are : ps ≡ before ++ p ∷ after
  pub offset : o ≡ length (back_to_back before)

-- what a field for a visit says: FFFF none, else the program that starts at that offset, which holds nothing of the other visit
pub data FieldIs (ps : List Program) (v : Visit) (field : ℕ) : Option Program → Type 0 where
  no_program : field ≡ 0xFFFF → FieldIs ps v field none
  names : (field ≡ 0xFFFF → ⊥) → (p : Program) → StartOf ps field p → allowed v p ≡ true → FieldIs ps v field (some p)
