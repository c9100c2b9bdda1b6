-- Bytes that are a sheet: they keep numbers 1 to 6. Assumes nothing.
use Rattle.std.specs.Prelude.{List, ℕ}
use Rattle.sheet.specs.Sheet.{Sheet}
use Rattle.packing.specs.Packs.{Packs}

pub record KeepsSix (s : List ℕ) : Type 0 where
  pub its_sheet : Sheet
  pub packed : Packs s its_sheet
