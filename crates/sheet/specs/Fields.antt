-- The programs of a sheet and the fields that name them. Number 6 of document 01. Assumes nothing.
use Rattle.std.specs.Prelude.{List, ℕ, ◌<◌}
use Rattle.std.proofs.Math.Option.{Option}
use Rattle.programs.specs.Program.{Program}
use Rattle.programs.specs.Bounds.{Bounds, bounds}
use Rattle.programs.specs.Limits.{first, second}
use Rattle.programs.specs.Section.{FillIn, FieldIs}
use Rattle.layout.specs.Layout.{tag_count, production_count, node_count, programs_in, strings_in}
use Rattle.layout.specs.Records.{first_program_of, second_program_of, first_program_of_node, second_program_of_node}

-- the programs of a production or a node, for its two visits
pub record Visits : Type 0 where
  pub first_visit : Option Program
  pub second_visit : Option Program

-- what its two fields say
pub record FieldsAre (ps : List Program) (one two : ℕ) (v : Visits) : Type 0 where
  pub first_is : FieldIs ps first one v.first_visit
  pub second_is : FieldIs ps second two v.second_visit

-- number 6, with the bounds b: programs fill their section, and each field of a production and of a node names one for its visit, or none
pub record ProgramsIn (b : Bounds) (s : List ℕ) : Type 0 where
  pub programs : List Program
  pub fill : FillIn b (tag_count s) (strings_in s) (programs_in s) programs
  pub of_productions : (q : ℕ) → q < production_count s → (v : Visits) × FieldsAre programs (first_program_of s q) (second_program_of s q) v
  pub of_nodes : (i : ℕ) → i < node_count s → (v : Visits) × FieldsAre programs (first_program_of_node s i) (second_program_of_node s i) v

abbrev pub Programs : List ℕ → Type 0
Programs = ProgramsIn bounds
