-- What a call of the salvage run over bytes answers, whatever the bytes of the sheet, of the state and of the part: the number, what is taken, written and reported, and every byte of
-- the state and of the three lent areas then.
-- Assumes nothing.
use Rattle.std.specs.Prelude.{◌≡◌, Bool, not, List, ◌++◌, ℕ, ◌/◌, ◌≤◌, length, drop}
use Rattle.std.proofs.Math.Option.{none, some}
use Rattle.sheet.specs.Sheet.{Sheet, IsSheet}
use Rattle.faults.specs.Verdict.{VerdictIs}
use Rattle.runs.specs.Taken.{Passed}
use Rattle.calls.specs.Call.{again}
use Rattle.salvage.specs.Shape.{RecordTags}
use Rattle.salvage.specs.Shaped.{record_tags, shape_number}
use Rattle.rescue.specs.Held.{Rescued}
use Rattle.rescue.specs.Call.{RescueCalled}
use Rattle.state.specs.Bytes.{state_from}
use Rattle.rescued.specs.declared.SalvageCounts.{SalvageCounts}
use Rattle.rescued.specs.Bytes.{salvage_in, salvage_bytes, area_after, entry_width, report_bytes}
use Rattle.rescued.specs.Fits.{SalvageFits}

-- what a call is lent, or what it leaves: the bytes of the state, of the output, of the area for what waits, and of the report
pub record Lent : Type 0 where
  pub state : List ℕ
  pub output : List ℕ
  pub area : List ℕ
  pub report : List ℕ

-- the numbers with which all is handed back as it was: 1 to 9; 34, where the sheet is not of the shape; 29, where the bytes do not fit it; 28 or an earlier refusal again
pub data SalvageGivenBack (s part : List ℕ) (l : Lent) : ℕ → Type 0 where
  sheet_fails : {n : ℕ} → 1 ≤ n → VerdictIs s n → SalvageGivenBack s part l n
  no_records : (a : Sheet) → IsSheet s a → Passed a → record_tags a ≡ none → SalvageGivenBack s part l (shape_number none)
  unfit : (a : Sheet) (x : RecordTags) → IsSheet s a → Passed a → record_tags a ≡ some x → (SalvageFits a l.state (length l.area) (length part) → ⊥) → SalvageGivenBack s part l 29
  closed : (a : Sheet) (x : RecordTags) → IsSheet s a → Passed a → record_tags a ≡ some x → SalvageFits a l.state (length l.area) (length part) →
      (n : ℕ) → (salvage_in l.state l.area).closing ≡ some n → SalvageGivenBack s part l (again n)

-- nothing is taken, written or reported, and every byte is as it was; the visits are the count that the state's bytes hold
pub record SalvageUntouched (l l' : Lent) (r : SalvageCounts) : Type 0 where
  pub taken : r.taken ≡ 0
  pub written : r.written ≡ 0
  pub reported : r.reported ≡ 0
  pub waited : r.waited ≡ 0
  pub visits : r.visits ≡ (state_from l.state).count
  pub same : l' ≡ l

-- o stands first in the lent memory, and every byte past it is as lent
pub record Put (lent after o : List ℕ) : Type 0 where
  pub room : length o ≤ length lent
  pub left : after ≡ o ++ drop (length o) lent

-- a run over the part's bytes from an open state: its answer in the output and the report, which have room for it; the state's bytes are those of what is held then; and the area holds
-- what waits, 0 where bytes waited that do not any more, and past these it is as lent
pub record SalvageRan (s part : List ℕ) (ended : Bool) (l l' : Lent) (r : SalvageCounts) : Type 0 where
  pub sheet : Sheet
  pub tags : RecordTags
  pub is_sheet : IsSheet s sheet
  pub passed : Passed sheet
  pub of_shape : record_tags sheet ≡ some tags
  pub fits : SalvageFits sheet l.state (length l.area) (length part)
  pub is_open : (salvage_in l.state l.area).closing ≡ none
  pub answer : Rescued
  pub called : RescueCalled sheet tags part (not ended) (length l.area) (length l.output) (length l.report / entry_width) (salvage_in l.state l.area) answer
  pub number : r.number ≡ answer.number
  pub taken : r.taken ≡ answer.taken
  pub within : r.taken ≤ length part
  pub written : r.written ≡ length answer.output
  pub reported : r.reported ≡ length answer.report
  pub waited : r.waited ≡ answer.waited
  pub waits_in : r.waited ≤ length l.area
  pub visits : r.visits ≡ (state_from l'.state).count
  pub output : Put l.output l'.output answer.output
  pub report : Put l.report l'.report (report_bytes answer.report)
  pub state : l'.state ≡ salvage_bytes answer.held
  pub area : l'.area ≡ area_after l.area answer.waited answer.held.mode

-- s are the bytes of the sheet, l is lent and l' is left
pub data SalvagedAs (s part : List ℕ) (ended : Bool) (l l' : Lent) (r : SalvageCounts) : Type 0 where
  as_given : SalvageGivenBack s part l r.number → SalvageUntouched l l' r → SalvagedAs s part ended l l' r
  runs : SalvageRan s part ended l l' r → SalvagedAs s part ended l l' r

-- any two answers are equal, to the byte
abbrev pub OneSalvaged : Type 0
OneSalvaged =
    (s part : List ℕ) (ended : Bool) (l l' l'' : Lent) (r q : SalvageCounts) → SalvagedAs s part ended l l' r → SalvagedAs s part ended l l'' q → (r ≡ q) × (l' ≡ l'')
