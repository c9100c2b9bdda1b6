-- Two sheets that are the same by name: number 7 is given of both or of neither. Assumes nothing.
use Rattle.std.specs.Prelude.{List, ◌↔◌, ℕ}
use Rattle.sheet.specs.Defect.{DefectIs}
use Rattle.sheet.specs.Sheet.{Sheet}
use Rattle.packing.specs.Packs.{Packs}
use Rattle.naming.specs.ByName.{SameByName}

-- of the checker's numbers 0 to 7, which come before the faults
abbrev pub SameDefect : Type 0
SameDefect = (s s' : List ℕ) (a b : Sheet) → Packs s a → Packs s' b → SameByName a b → (d : ℕ) → DefectIs s d ↔ DefectIs s' d
