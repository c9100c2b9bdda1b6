-- What is promised of a call of the salvage run.
-- Assumes nothing.
use Rattle.std.specs.Prelude.{◌≡◌, Bool, false, List, ℕ, ◌+◌, ◌≤◌, length}
use Rattle.sheet.specs.Sheet.{Sheet}
use Rattle.runs.specs.Fits.{NamesFit}
use Rattle.salvage.specs.Shape.{RecordTags}
use Rattle.salvage.specs.Salvage.{Salvage, Salvaged}
use Rattle.rescue.specs.Held.{HeldSalvage, fresh_salvage, Rescued, as_salvage}
use Rattle.rescue.specs.Call.{RescueCalled}
use Rattle.rescue.specs.Parts.{Began}

-- any two answers are equal
abbrev pub OneRescue : Sheet → RecordTags → Type 0
OneRescue a x =
    (part : List ℕ) (more : Bool) (area room spare : ℕ) (h : HeldSalvage) (r r' : Rescued) → RescueCalled a x part more area room spare h r → RescueCalled a x part more area room spare h r' →
    r ≡ r'

-- every call has one, from what a call hands back: a record that the run is in began with one of the bytes that were taken
abbrev pub SomeRescue : Sheet → RecordTags → Type 0
SomeRescue a x =
    (part : List ℕ) (more : Bool) (area room spare : ℕ) (h : HeldSalvage) → Began h.passed h.mode → (r : Rescued) × RescueCalled a x part more area room spare h r

-- and hands back such a one; the bytes taken lie in the part, and are those that the state counts
abbrev pub RescueWithin : Sheet → RecordTags → Type 0
RescueWithin a x =
    (part : List ℕ) (more : Bool) (area room spare : ℕ) (h : HeldSalvage) (r : Rescued) → Began h.passed h.mode → RescueCalled a x part more area room spare h r →
    (r.taken ≤ length part) × Began r.held.passed r.held.mode × (r.held.passed ≡ h.passed + r.taken)

-- one call on a whole stream that is declared ended, from a fresh state, with an entry for each stretch, is the salvage run over that stream: what the one answers the other does
abbrev pub InOneCall : Sheet → RecordTags → Type 0
InOneCall a x =
    NamesFit a.names → (s : List ℕ) (area room spare : ℕ) (q : Salvage) → Salvaged a x s area room q → length q.report ≤ spare →
    (r : Rescued) × RescueCalled a x s false area room spare fresh_salvage r × (as_salvage r ≡ q)

abbrev pub IsSalvage : Sheet → RecordTags → Type 0
IsSalvage a x =
    NamesFit a.names → (s : List ℕ) (area room spare : ℕ) (r : Rescued) → RescueCalled a x s false area room spare fresh_salvage r → (q : Salvage) → Salvaged a x s area room q →
    length q.report ≤ spare → as_salvage r ≡ q

-- so all that is promised of a salvage run over a whole stream is promised of it; an entry for each byte always suffices
abbrev pub CallSalvages : Sheet → RecordTags → Type 0
CallSalvages a x =
    NamesFit a.names → (s : List ℕ) (area room spare : ℕ) (r : Rescued) → RescueCalled a x s false area room spare fresh_salvage r → length s ≤ spare →
    Salvaged a x s area room (as_salvage r)
