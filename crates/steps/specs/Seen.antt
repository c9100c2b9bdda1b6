-- What an event or a token came to, as a whole state: the live part and the stack's bytes together.
-- Assumes nothing.
use Rattle.std.specs.Prelude.{List, ℕ}
use Rattle.state.specs.declared.State.{State}
use Rattle.live.specs.Live.{full}
use Rattle.steps.specs.declared.Stepped.{Stepped}

pub record SteppedSeen : Type 0 where
  pub number : ℕ
  pub at : ℕ
  pub state : State

abbrev pub whole : Stepped → List ℕ → SteppedSeen
whole r b = record { number = r.number; at = r.at; state = full r.live b }
