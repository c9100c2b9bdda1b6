-- Document 01's number for each case of what reading a program answers, and when it is given. Assumes nothing.
use Rattle.std.specs.Prelude.{Option as Read, Some, None, ◌≡◌, List, ◌↔◌, ℕ, drop}
use Rattle.std.proofs.Math.Option.{Option, none, some}
use Rattle.text.specs.Chars.{Starts}
use Rattle.programs.specs.Program.{Program, program_bytes}
use Rattle.programs.specs.Limits.{IsProgram}
use Rattle.programs.specs.Parsed.{ProgramAt}
use Rattle.programs.specs.declared.Parsed.{Parsed}

-- a program that is read has no number of its own; where none lies that a sheet may have, the sheet is 6
abbrev pub program_number : Read Parsed → Option ℕ
program_number (Some read) = none
program_number None = some 6

abbrev pub SixExactly : Type 0
SixExactly =
    (tags : ℕ) (strings s : List ℕ) (i : ℕ) (r : Read Parsed) → ProgramAt tags strings s i r →
    (program_number r ≡ some 6) ↔ ((p : Program) → IsProgram tags strings p → Starts (drop i s) (program_bytes p) → ⊥)
