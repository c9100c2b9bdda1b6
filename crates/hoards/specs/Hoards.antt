-- The strings that the programs of a sheet print, stored once, and whether they have room in a sheet. Assumes nothing.
use Rattle.std.specs.Prelude.{◌≡◌, Bool, List, [], ◌∷◌, ◌++◌, ℕ, suc, ◌≤◌, length}
use Rattle.std.proofs.Math.Option.{Option, none, some}
use Rattle.limits.specs.Limits.{most_string_bytes}
use Rattle.tells.specs.Tells.{Tells}
use Rattle.programs.specs.Limits.{Visit}
use Rattle.sheet.specs.Sheet.{Sheet}
use Rattle.notation.specs.Program.{TextProgram}
use Rattle.notation.specs.Rules.{TextVisits, Rules}
use Rattle.encoding.specs.Distinct.{run_together}
use Rattle.encoding.specs.Mentions.{in_program, strings_mentioned}
use Rattle.encoding.specs.Encoded.{strings_stored}
use Rattle.packing.specs.Packs.{Packs}
use Rattle.naming.specs.ByName.{ByName}
use Rattle.asides.specs.Asides.{FieldNamed, BothNamed}

-- the strings of a program, of both programs of a record, and of all records
abbrev pub strings_of_one : Option TextProgram → List (List ℕ)
strings_of_one none = []
strings_of_one (some p) = strings_mentioned (in_program p)

abbrev pub strings_of_both : TextVisits → List (List ℕ)
strings_of_both v = strings_of_one v.first_visit ++ strings_of_one v.second_visit

abbrev pub strings_of_each : List TextVisits → List (List ℕ)
strings_of_each [] = []
strings_of_each (v ∷ vs) = strings_of_both v ++ strings_of_each vs

-- those of the program that a field names, of the sheet that the bytes s are
pub record FieldStrings (s : List ℕ) (field : ℕ) (xs : List (List ℕ)) : Type 0 where
  pub sheet : Sheet
  pub packs : Packs s sheet
  pub visit : Visit
  pub program : Option TextProgram
  pub names : FieldNamed s sheet packs visit field program
  pub are : xs ≡ strings_of_one program

-- those of two fields
pub record BothStrings (s : List ℕ) (one two : ℕ) (xs : List (List ℕ)) : Type 0 where
  pub sheet : Sheet
  pub packs : Packs s sheet
  pub programs : TextVisits
  pub names : BothNamed s sheet packs one two programs
  pub are : xs ≡ strings_of_both programs

-- those of the fields of the records from k on, up to `many`
abbrev pub EachVisitNamed : (s : List ℕ) (a : Sheet) → Packs s a → (ℕ → ℕ) → (ℕ → ℕ) → ℕ → ℕ → List TextVisits → Type 0
EachVisitNamed s a z one two k many [] = k ≡ many
EachVisitNamed s a z one two k many (v ∷ vs) = BothNamed s a z (one k) (two k) v × EachVisitNamed s a z one two (suc k) many vs

pub record EachStrings (s : List ℕ) (one two : ℕ → ℕ) (many : ℕ) (xs : List (List ℕ)) : Type 0 where
  pub sheet : Sheet
  pub packs : Packs s sheet
  pub programs : List TextVisits
  pub names : EachVisitNamed s sheet packs one two 0 many programs
  pub are : xs ≡ strings_of_each programs

-- whether the different strings that the sheet's rules print have room in a sheet
abbrev pub FitsIs : List ℕ → Bool → Type 0
FitsIs s r = (a : Sheet) → Packs s a → (x : Rules) → ByName a x → Tells (length (run_together (strings_stored x)) ≤ most_string_bytes) r
