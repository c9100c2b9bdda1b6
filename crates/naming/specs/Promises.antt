-- What is promised of sheets by name. Assumes nothing.
use Rattle.std.specs.Prelude.{◌≡◌, Bool, List, ℕ, ◌≤◌, leb, length}
use Rattle.limits.specs.Limits.{most_string_bytes}
use Rattle.text.specs.Names.{All}
use Rattle.sheet.specs.Sheet.{Sheet}
use Rattle.notation.specs.Rules.{Rules}
use Rattle.notation.specs.Limits.{WithinLimits}
use Rattle.encoding.specs.Distinct.{run_together}
use Rattle.encoding.specs.Encoded.{strings_stored, Room, sheet_of}
use Rattle.encoding.specs.Sound.{SoundRules}
use Rattle.packing.specs.Packs.{Packs}
use Rattle.naming.specs.ByName.{ByName}

-- a sheet is one rules at most
abbrev pub OneByName : Type 0
OneByName = (a : Sheet) (r q : Rules) → ByName a r → ByName a q → r ≡ q

-- and one that keeps numbers 1 to 6 is some
abbrev pub SheetsAreRules : Type 0
SheetsAreRules = (s : List ℕ) (a : Sheet) → Packs s a → (r : Rules) × ByName a r

-- the sheet of rules is those rules
abbrev pub SheetIsItsRules : Type 0
SheetIsItsRules = (r : Rules) → ByName (sheet_of r) r

abbrev pub is_byte : ℕ → Bool
is_byte b = leb b 255

-- the rules of a sheet that keeps numbers 1 to 6 can be typed, and keep the limits that are part of the text
abbrev pub SheetsAreTyped : Type 0
SheetsAreTyped = (s : List ℕ) (a : Sheet) (r : Rules) → All is_byte s → Packs s a → ByName a r → SoundRules r × WithinLimits r

-- only their strings can have no room in a sheet: prints may overlap, and each different print is then stored by itself
abbrev pub OnlyStringsGrow : Type 0
OnlyStringsGrow = (s : List ℕ) (a : Sheet) (r : Rules) → All is_byte s → Packs s a → ByName a r → length (run_together (strings_stored r)) ≤ most_string_bytes → Room r
