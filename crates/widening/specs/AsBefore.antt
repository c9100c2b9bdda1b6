-- Wider bounds, request §7: a sheet that keeps the narrower ones passes exactly when it passed, and runs to the same numbers, bytes taken, output and counts.
-- Assumes nothing.
use Rattle.std.specs.Prelude.{◌≡◌, List, ◌↔◌, ℕ, ◌≤◌}
use Rattle.programs.specs.Program.{Program}
use Rattle.programs.specs.Bounds.{Bounds, bounds}
use Rattle.programs.specs.Section.{AllProgramsIn, FillIn}
use Rattle.layout.specs.Layout.{tag_count, programs_in, strings_in}
use Rattle.sheet.specs.Defect.{DefectIsIn}
use Rattle.sheet.specs.Sheet.{Sheet, IsSheetIn}
use Rattle.runs.specs.Taken.{Passed}
use Rattle.calls.specs.Held.{fresh_held}
use Rattle.widening.specs.CallByCall.{Asked, Heard, CallByCall, fresh_in}

-- the old bounds: four attributes, with values 0 to 15
abbrev pub old_bounds : Bounds
old_bounds = record { highest_attribute = 3; highest_value = 15 }

-- b' allows all that b does
pub record Wider (b b' : Bounds) : Type 0 where
  pub of_attributes : b.highest_attribute ≤ b'.highest_attribute
  pub of_values : b.highest_value ≤ b'.highest_value

-- the sheet's programs, as they are read with the bounds b', keep b
abbrev pub Keeps : Bounds → Bounds → List ℕ → Type 0
Keeps b b' s = (ps : List Program) → FillIn b' (tag_count s) (strings_in s) (programs_in s) ps → AllProgramsIn b (tag_count s) (strings_in s) ps

-- the bytes are a sheet, and it has no fault
abbrev pub PassesIn : Bounds → List ℕ → Type 0
PassesIn b s = (a : Sheet) × IsSheetIn b s a × Passed a

-- b are the old bounds, b' the new
pub record AsBefore (b b' : Bounds) : Type 0 where
  -- what was a sheet is one, with the same tags, productions, programs and strings
  pub still_a_sheet : (s : List ℕ) (a : Sheet) → IsSheetIn b s a → IsSheetIn b' s a
  -- of bytes that keep the old bounds: the same sheet, if one, and the same number of 1 to 7, if one of these
  pub same_sheet : (s : List ℕ) → Keeps b b' s → (a : Sheet) → IsSheetIn b s a ↔ IsSheetIn b' s a
  pub same_number : (s : List ℕ) → Keeps b b' s → (n : ℕ) → DefectIsIn b s n ↔ DefectIsIn b' s n
  pub same_passing : (s : List ℕ) → Keeps b b' s → PassesIn b s ↔ PassesIn b' s
  -- and of a sheet that kept them, whatever is asked: the same is heard, call by call
  pub same_calls : (s : List ℕ) (a : Sheet) → IsSheetIn b s a → (qs : List Asked) (hs : List Heard) →
      CallByCall a (fresh_in b) qs hs ↔ CallByCall a (fresh_in b') qs hs

-- so it is of the old bounds and those that hold today
abbrev pub OldAsBefore : Type 0
OldAsBefore = AsBefore old_bounds bounds

-- the fresh state of the bounds that hold today is the one that a run starts in
abbrev pub FreshIsToday : Type 0
FreshIsToday = fresh_in bounds ≡ fresh_held
