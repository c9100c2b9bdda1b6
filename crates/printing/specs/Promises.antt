-- What is promised of sheets printed as text. Assumes nothing.
use Rattle.std.specs.Prelude.{◌≡◌, List, ℕ, take}
use Rattle.text.specs.Names.{All}
use Rattle.sheet.specs.Sheet.{Sheet}
use Rattle.notation.specs.Rules.{Rules}
use Rattle.notation.specs.RuleText.{RuleText}
use Rattle.encoding.specs.Encoded.{Room, sheet_of}
use Rattle.packing.specs.Packed.{sheet_bytes}
use Rattle.packing.specs.Packs.{Packs}
use Rattle.writing.specs.Written.{WrittenAs}
use Rattle.printed.specs.Text.{text_of}
use Rattle.naming.specs.ByName.{SameByName}
use Rattle.naming.specs.Promises.{is_byte}
use Rattle.printing.specs.Printed.{HasText, PrintedAs}

-- any two answers allowed are equal
abbrev pub OnePrinting : Type 0
OnePrinting = (sheet area : List ℕ) (m n j k : ℕ) (x y : List ℕ) → PrintedAs sheet area m j x → PrintedAs sheet area n k y → (m ≡ n) × (j ≡ k) × (x ≡ y)

-- the printed text writes the sheet's rules, and they have a sheet, which is the same by name
pub record RoundTrip (sheet : List ℕ) (r : Rules) (h : HasText sheet r) : Type 0 where
  pub is_text : RuleText (text_of r) r
  pub has_room : Room r
  pub is_sheet : Packs (sheet_bytes r) (sheet_of r)
  pub same : SameByName h.its_sheet (sheet_of r)

abbrev pub RoundTrips : Type 0
RoundTrips = (sheet : List ℕ) (r : Rules) (h : HasText sheet r) → All is_byte sheet → RoundTrip sheet r h

-- a sheet printed, and the text written as a sheet: that is printed as the same text, to the byte
abbrev pub PrintsTheSame : Type 0
PrintsTheSame =
    (sheet area lent x y : List ℕ) (n k : ℕ) → All is_byte sheet → PrintedAs sheet area 0 n x → WrittenAs (take n x) lent 0 k y → PrintedAs (take k y) area 0 n x

-- a text written as a sheet, and that printed: the text is written as the same sheet, to the byte
abbrev pub WritesTheSame : Type 0
WritesTheSame = (text area lent x y : List ℕ) (n k : ℕ) → WrittenAs text area 0 k y → PrintedAs (take k y) lent 0 n x → WrittenAs (take n x) area 0 k y
