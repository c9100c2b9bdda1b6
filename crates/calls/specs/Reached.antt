-- The states between tokens that a stream can come to from a fresh one: 01's statements about streams are of these.
-- Assumes nothing.
use Rattle.std.specs.Prelude.{◌≡◌, List, ◌++◌, ℕ}
use Rattle.sheet.specs.Sheet.{Sheet}
use Rattle.runs.specs.Events.{Event}
use Rattle.runs.specs.Acts.{Store}
use Rattle.runs.specs.Machine.{Configuration, fresh_configuration, finished, run}
use Rattle.runs.specs.Taken.{Stopped}
use Rattle.runs.specs.Spells.{Token, events_of_token}
use Rattle.calls.specs.Limits.{silent}

-- a run over events from a fresh state comes to z, but for the output, which a state does not hold
pub record ReachedBy (a : Sheet) (z : Configuration) : Type 0 where
  pub events : List Event
  pub full : Configuration
  pub runs : run a fresh_configuration events ≡ finished full
  pub is : z ≡ silent full

-- 22 to 26 in such a state: the first of the token's events that is refused after those so far
abbrev pub StopsAt : {a : Sheet} {z : Configuration} → ReachedBy a z → Token → ℕ → Type 0
StopsAt {a} h k n = (m : Store) × (left : List Event) × Stopped a (h.events ++ events_of_token k) n m left
