-- A look ahead over the statements of a program section: where those of a list end, and whether they are written as one statement. Assumes nothing.
use Rattle.std.specs.Prelude.{◌≡◌, Bool, cond, List, ℕ, ◌+◌, ◌≤◌, length}
use Rattle.programs.specs.Program.{Program, program_bytes}
use Rattle.sheet.specs.Sheet.{Sheet}
use Rattle.notation.specs.Program.{TextProgram}
use Rattle.printed.specs.Programs.{all_items, is_done, is_one, is_plain_one}
use Rattle.naming.specs.ByName.{program_named}
use Rattle.visits.specs.Evaluated.{LiesAt}

-- r is the end of what lies at i, and so many bytes at least are passed
pub record EndsAt {T : Type 0} (bytes : T → List ℕ) (least : ℕ) (s : List ℕ) (i r : ℕ) : Type 0 where
  pub low : i + least ≤ r
  pub high : r ≤ length s
  pub exact : (x : T) → LiesAt bytes s i x → r ≡ i + length (bytes x)

-- whether all that are left of a list are items of a print
abbrev pub ItemsLeft : List ℕ → ℕ → Bool → Type 0
ItemsLeft s i r = (a : Sheet) (p : Program) → LiesAt program_bytes s i p → r ≡ all_items (program_named a p)

-- 0: no statement; 1: one that is no if; 2: one if; 3: more. Several prints are one
abbrev pub shape_of : TextProgram → ℕ
shape_of p = cond (is_done p) 0 (cond (is_plain_one p) 1 (cond (is_one p) 2 3))

-- of the list that lies at i
abbrev pub ShapeIs : List ℕ → ℕ → ℕ → Type 0
ShapeIs s i r = (a : Sheet) (p : Program) → LiesAt program_bytes s i p → r ≡ shape_of (program_named a p)
