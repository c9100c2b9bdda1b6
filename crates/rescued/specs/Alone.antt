-- What returns when a record is dropped, read as a state: the root alone is open in it, and it is not closed. A promise of the bytes' form.
-- Assumes nothing.
use Rattle.std.specs.Prelude.{◌≡◌, List, ℕ, length}
use Rattle.state.specs.Changes.{not_closed}
use Rattle.rescued.specs.Bytes.{salvage_width, returning_in}

pub record RootAlone (b : List ℕ) : Type 0 where
  pub one : (returning_in b).depth ≡ 1
  pub is_open : (returning_in b).closed ≡ not_closed

abbrev pub ReturnsAlone : Type 0
ReturnsAlone = (b : List ℕ) → length b ≡ salvage_width → RootAlone b
