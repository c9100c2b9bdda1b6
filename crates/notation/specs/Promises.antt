-- What is promised of rule texts. Assumes nothing.
use Rattle.std.specs.Prelude.{◌≡◌, List, ℕ, length}
use Rattle.programs.specs.Program.{program_bytes}
use Rattle.programs.specs.Limits.{nesting}
use Rattle.notation.specs.Program.{TextProgram, program_in}
use Rattle.notation.specs.Rules.{Rules}
use Rattle.notation.specs.Limits.{size_of, nesting_of}
use Rattle.notation.specs.RuleText.{RuleText}
use Rattle.notation.specs.Refusal.{RefusedAt, ByteOf40}

-- at most one place is refused
abbrev pub OnePlace : Type 1
OnePlace = (A R : Type 0) (Writes : List A → R → Type 0) (row : List A) (j k : ℕ) → RefusedAt Writes row j → RefusedAt Writes row k → j ≡ k

-- and none in a row that writes something
abbrev pub NoneWhereWritten : Type 1
NoneWhereWritten = (A R : Type 0) (Writes : List A → R → Type 0) (row : List A) (v : R) (k : ℕ) → Writes row v → RefusedAt Writes row k → ⊥

-- a program's size and nesting are those that it has in every sheet
abbrev pub SizeInEverySheet : Type 0
SizeInEverySheet = (tag offset : List ℕ → ℕ) (p : TextProgram) → length (program_bytes (program_in tag offset p)) ≡ size_of p

abbrev pub NestingInEverySheet : Type 0
NestingInEverySheet = (tag offset : List ℕ → ℕ) (p : TextProgram) → nesting (program_in tag offset p) ≡ nesting_of p
