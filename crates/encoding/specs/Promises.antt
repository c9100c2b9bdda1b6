-- What is promised of the sheet of a rule text. Assumes nothing.
use Rattle.std.specs.Prelude.{List, ℕ}
use Rattle.notation.specs.Rules.{Rules}
use Rattle.notation.specs.RuleText.{RuleText}
use Rattle.encoding.specs.Encoded.{sheet_of}
use Rattle.encoding.specs.Keeps.{SheetKeeps}

-- it keeps what numbers 3 to 6 ask of names, productions, trees and programs
abbrev pub SheetsKeep : Type 0
SheetsKeep = (text : List ℕ) (r : Rules) → RuleText text r → SheetKeeps (sheet_of r)
