-- What is promised of the bytes of a rule text's sheet. Assumes nothing.
use Rattle.std.specs.Prelude.{◌≡◌, ◌⊎◌, List, ℕ}
use Rattle.sheet.specs.Grounded.{Grounded}
use Rattle.sheet.specs.Defect.{DefectIs}
use Rattle.sheet.specs.Sheet.{IsSheet}
use Rattle.notation.specs.Rules.{Rules}
use Rattle.notation.specs.RuleText.{RuleText}
use Rattle.encoding.specs.Encoded.{Room, sheet_of}
use Rattle.packing.specs.Packed.{sheet_bytes}
use Rattle.packing.specs.Packs.{Packs}

-- with room they are the text's sheet, and keep numbers 1 to 6
abbrev pub PacksSheets : Type 0
PacksSheets = (text : List ℕ) (r : Rules) → RuleText text r → Room r → Packs (sheet_bytes r) (sheet_of r)

-- so the checker gives none of these numbers
abbrev pub NoneOfSix : Type 0
NoneOfSix = (text : List ℕ) (r : Rules) (d : ℕ) → RuleText text r → Room r → DefectIs (sheet_bytes r) d → (d ≡ 0) ⊎ (d ≡ 7)

-- and where number 7 is kept too, the sheet is the text's
abbrev pub IsItsSheet : Type 0
IsItsSheet = (text : List ℕ) (r : Rules) → RuleText text r → Room r → Grounded (sheet_bytes r) → IsSheet (sheet_bytes r) (sheet_of r)
