-- A sheet printed as text into lent memory: the number, the count that goes with it, and what the memory then holds. Assumes nothing.
use Rattle.std.specs.Prelude.{List, ◌++◌, ℕ, ◌≤◌, ◌<◌, length, drop}
use Rattle.limits.specs.Limits.{most_string_bytes}
use Rattle.sheet.specs.Defect.{DefectIs}
use Rattle.sheet.specs.Sheet.{Sheet}
use Rattle.notation.specs.Rules.{Rules}
use Rattle.encoding.specs.Distinct.{run_together}
use Rattle.encoding.specs.Encoded.{strings_stored}
use Rattle.packing.specs.Packs.{Packs}
use Rattle.printed.specs.Text.{text_of}
use Rattle.naming.specs.ByName.{ByName}

-- the different strings that the rules print have room in a sheet
abbrev pub StringsFit : Rules → Type 0
StringsFit r = length (run_together (strings_stored r)) ≤ most_string_bytes

-- the sheet's rules, where their text keeps the limits
pub record HasText (sheet : List ℕ) (r : Rules) : Type 0 where
  pub its_sheet : Sheet
  pub packed : Packs sheet its_sheet
  pub by_name : ByName its_sheet r
  pub short : StringsFit r

-- 1 to 6 as the checker's; 42 where the different strings that the sheet's rules print have no room in a sheet; 43 with the length needed; 0 with the length written, and then every byte past it is as lent.
-- With any other number all bytes are
pub data PrintedAs (sheet area : List ℕ) : ℕ → ℕ → List ℕ → Type 0 where
  no_sheet : {d : ℕ} → DefectIs sheet d → 1 ≤ d → d ≤ 6 → PrintedAs sheet area d 0 area
  no_room : (a : Sheet) (r : Rules) → Packs sheet a → ByName a r → most_string_bytes < length (run_together (strings_stored r)) → PrintedAs sheet area 42 0 area
  too_short : (r : Rules) → HasText sheet r → length area < length (text_of r) → PrintedAs sheet area 43 (length (text_of r)) area
  printed : (r : Rules) → HasText sheet r → length (text_of r) ≤ length area → PrintedAs sheet area 0 (length (text_of r)) (text_of r ++ drop (length (text_of r)) area)
