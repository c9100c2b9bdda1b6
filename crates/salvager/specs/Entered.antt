-- Whether a salvage call runs: 0, or the number with which all is handed back as it was.
-- Assumes nothing.
use Rattle.std.specs.Prelude.{◌≡◌, List, ℕ, ◌≤◌, length}
use Rattle.std.proofs.Math.Option.{some}
use Rattle.sheet.specs.Sheet.{Sheet, IsSheet}
use Rattle.runs.specs.Taken.{Passed}
use Rattle.salvage.specs.Shape.{RecordTags}
use Rattle.salvage.specs.Shaped.{record_tags}
use Rattle.state.specs.Bytes.{state_from}
use Rattle.state.specs.Changes.{not_closed}
use Rattle.rescued.specs.Fits.{SalvageFits}
use Rattle.rescued.specs.Salvaged.{SalvageGivenBack}

-- the sheet passes and is of the shape, and the bytes fit it and are not closed
pub record MaySalvage (s b area part : List ℕ) : Type 0 where
  pub sheet : Sheet
  pub tags : RecordTags
  pub is_sheet : IsSheet s sheet
  pub passed : Passed sheet
  pub of_shape : record_tags sheet ≡ some tags
  pub fits : SalvageFits sheet b (length area) (length part)
  pub is_open : (state_from b).closed ≡ not_closed

-- whatever else is lent
pub data SalvageEntered (s b area part : List ℕ) : ℕ → Type 0 where
  may_run : MaySalvage s b area part → SalvageEntered s b area part 0
  given_back : {n : ℕ} → 1 ≤ n → ((out report : List ℕ) → SalvageGivenBack s part (record { state = b; output = out; area = area; report = report }) n) → SalvageEntered s b area part n
