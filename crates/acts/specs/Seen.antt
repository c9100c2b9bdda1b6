-- What acts came to, as a whole state: the live part and the stack's bytes together.
-- Assumes nothing.
use Rattle.std.specs.Prelude.{Option as Taken, Some, None, List, ℕ}
use Rattle.state.specs.declared.State.{State}
use Rattle.live.specs.Live.{full}
use Rattle.acts.specs.declared.Acted.{Acted}

pub record ActedSeen : Type 0 where
  pub at : ℕ
  pub state : State

abbrev pub seen : Acted → List ℕ → ActedSeen
seen r b = record { at = r.at; state = full r.live b }

-- the same, where no program rejected
abbrev pub seen_if : Taken Acted → List ℕ → Taken ActedSeen
seen_if None b = None
seen_if (Some r) b = Some (seen r b)
