-- What a fresh state of a salvage run is handed as: its bytes at the start of the area, every other byte as lent; or nothing, where they do not fit.
-- Assumes nothing.
use Rattle.std.specs.Prelude.{◌≡◌, List, ◌++◌, ℕ, ◌≤◌, ◌<◌, length, drop}
use Rattle.rescue.specs.Held.{fresh_salvage}
use Rattle.rescued.specs.Bytes.{salvage_width, salvage_bytes}

pub data SalvageStarted (lent after : List ℕ) : ℕ → Type 0 where
  too_short : length lent < salvage_width → after ≡ lent → SalvageStarted lent after 0
  fresh : salvage_width ≤ length lent → after ≡ salvage_bytes fresh_salvage ++ drop salvage_width lent → {w : ℕ} → w ≡ salvage_width → SalvageStarted lent after w

-- any two answers are equal, to the byte
abbrev pub OneStart : Type 0
OneStart = (lent after after' : List ℕ) (w w' : ℕ) → SalvageStarted lent after w → SalvageStarted lent after' w' → (after ≡ after') × (w ≡ w')
