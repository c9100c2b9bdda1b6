-- What is handed back between two calls of a salvage run, as bytes, is what is held.
-- Assumes nothing.
use Rattle.std.specs.Prelude.{◌≡◌, ◌⊎◌, Bool, List, ℕ, ◌+◌, ◌^◌, ◌≤◌, ◌<◌, length}
use Rattle.sheet.specs.Sheet.{Sheet, IsSheet}
use Rattle.rescue.specs.Held.{fresh_salvage}
use Rattle.converter.specs.Promises.{InTable}
use Rattle.rescued.specs.declared.SalvageCounts.{SalvageCounts}
use Rattle.rescued.specs.Bytes.{salvage_in, salvage_bytes}
use Rattle.rescued.specs.Fits.{most_bytes, SalvageFits}
use Rattle.rescued.specs.Salvaged.{Lent, SalvageRan, SalvagedAs}

-- the bytes of the state, with those of the area, that a call leaves read back as what its answer hands back; the area is one that memory holds
abbrev pub StateReadsBack : Type 0
StateReadsBack =
    (s part : List ℕ) (ended : Bool) (l l' : Lent) (r : SalvageCounts) (w : SalvageRan s part ended l l' r) → length l.area < 2 ^ 64 → salvage_in l'.state l'.area ≡ w.answer.held

-- and fit again, whatever part comes next, as long as the stream is no longer than a stream may be: so no call on what a call has handed back is 29
abbrev pub FitsAgain : Type 0
FitsAgain =
    (s part : List ℕ) (ended : Bool) (l l' : Lent) (r : SalvageCounts) (w : SalvageRan s part ended l l' r) → length l.area < 2 ^ 64 → (next : ℕ) → w.answer.held.passed + next ≤ most_bytes →
    SalvageFits w.sheet l'.state (length l.area) next

-- a fresh state fits every sheet
abbrev pub FreshFits : Type 0
FreshFits =
    (s : List ℕ) (a : Sheet) → IsSheet s a → (area : List ℕ) → length area < 2 ^ 64 → (next : ℕ) → next ≤ most_bytes → SalvageFits a (salvage_bytes fresh_salvage) (length area) next

-- the numbers of the table that a salvage call answers, and 34
abbrev pub SalvageNumbers : Type 0
SalvageNumbers = (s part : List ℕ) (ended : Bool) (l l' : Lent) (r : SalvageCounts) → SalvagedAs s part ended l l' r → InTable r.number ⊎ (r.number ≡ 34)
