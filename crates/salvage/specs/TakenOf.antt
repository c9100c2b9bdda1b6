-- What is taken of a record holds neither byte string past the record's own start: so a search from the record's start finds the same place as one from the refused token.
-- Assumes nothing.
use Rattle.std.specs.Prelude.{List, [], ℕ, ◌<◌}
use Rattle.sheet.specs.Sheet.{Sheet}
use Rattle.runs.specs.Fits.{NamesFit}
use Rattle.runs.specs.Machine.{Configuration, fresh_configuration}
use Rattle.salvage.specs.Shape.{RecordTags, OfShape}
use Rattle.salvage.specs.Resumption.{MayResume}
use Rattle.salvage.specs.Salvage.{RecordAt, RecordEnd, whole, broken, InRecord, LostStretch}
use Rattle.salvage.specs.NeverSent.{ComesTo}

-- behind the last byte that is taken of it
abbrev pub taken_to : RecordEnd → ℕ
taken_to (whole at y next z w) = next
taken_to (broken n at y) = at

abbrev pub TakenHoldsNeither : Sheet → RecordTags → Type 0
TakenHoldsNeither a x =
    NamesFit a.names → (records : ℕ) → OfShape a records x → (s : List ℕ) (area room at : ℕ) (w : List ℕ) (ds : List LostStretch) (room' : ℕ) (z : Configuration) →
    ComesTo a x s area at 0 room fresh_configuration w ds room' z → RecordAt a x s at z → (o : RecordEnd) → InRecord a s area at z [] o →
    (i : ℕ) → at < i → i < taken_to o → MayResume a x s i → ⊥
