-- What a host in C is handed as a fresh state: its bytes at the start of the area, every other byte as lent; or nothing, where they do not fit.
-- Assumes nothing.
use Rattle.std.specs.Prelude.{◌≡◌, List, ◌++◌, ℕ, ◌≤◌, ◌<◌, length, drop}
use Rattle.state.specs.Bounds.{state_width}
use Rattle.state.specs.Bytes.{bytes_of}
use Rattle.state.specs.Changes.{fresh_state}

pub data StartedAs (lent after : List ℕ) : ℕ → Type 0 where
  too_short : length lent < state_width → after ≡ lent → StartedAs lent after 0
  fresh : state_width ≤ length lent → after ≡ bytes_of fresh_state ++ drop state_width lent → {w : ℕ} → w ≡ state_width → StartedAs lent after w
