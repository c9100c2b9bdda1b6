-- The program that a field of a sheet names, as text: with a space behind it, in front of what it is of, or with a space before it. Assumes nothing.
use Rattle.std.specs.Prelude.{◌≡◌, Bool, true, false, List, [], ◌∷◌, ◌++◌, ℕ, ◌+◌}
use Rattle.std.proofs.Math.Option.{Option, none, some}
use Rattle.programs.specs.Program.{Program}
use Rattle.programs.specs.Limits.{Visit, first, second}
use Rattle.programs.specs.Section.{FieldIs}
use Rattle.sheet.specs.Sheet.{Sheet}
use Rattle.notation.specs.Program.{TextProgram}
use Rattle.notation.specs.Rules.{TextVisits}
use Rattle.packing.specs.Packs.{Packs}
use Rattle.printed.specs.Programs.{program_text}
use Rattle.printed.specs.Expressions.{program_in_front, program_behind}
use Rattle.naming.specs.ByName.{option_named}
use Rattle.passages.specs.Passages.{most_of_a_program}

-- nothing where there is no program
abbrev pub aside_text : Bool → Option TextProgram → List ℕ
aside_text b none = []
aside_text true (some p) = program_text p ++ 32 ∷ []
aside_text false (some p) = 32 ∷ program_text p

-- they are what stands in front of a node or an element and behind it
abbrev pub AsidesAreTheirs : Type 0
AsidesAreTheirs = (f g : Option TextProgram) (x : List ℕ) → aside_text true f ++ (x ++ aside_text false g) ≡ program_in_front f (program_behind x g)

-- no program's text is longer, with its space
abbrev pub most_of_an_aside : ℕ
most_of_an_aside = most_of_a_program + 1

-- the field of the sheet a names that program, tags by name and strings by bytes, or none
pub record FieldNamed (s : List ℕ) (a : Sheet) (z : Packs s a) (v : Visit) (field : ℕ) (o : Option TextProgram) : Type 0 where
  pub program : Option Program
  pub is : FieldIs z.programs.programs v field program
  pub named : o ≡ option_named a program

-- two fields, of a first and of a second visit, name these programs
pub record BothNamed (s : List ℕ) (a : Sheet) (z : Packs s a) (one two : ℕ) (v : TextVisits) : Type 0 where
  pub first_is : FieldNamed s a z first one v.first_visit
  pub second_is : FieldNamed s a z second two v.second_visit

-- what the field is printed as, of the sheet that the bytes s are
pub record FieldText (s : List ℕ) (field : ℕ) (in_front : Bool) (w : List ℕ) : Type 0 where
  pub sheet : Sheet
  pub packs : Packs s sheet
  pub visit : Visit
  pub program : Option TextProgram
  pub names : FieldNamed s sheet packs visit field program
  pub bytes : w ≡ aside_text in_front program
