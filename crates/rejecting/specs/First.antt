-- The act that rejects a token: the first of those that its events ask for, each from what those before it came to.
-- Assumes nothing.
use Rattle.std.specs.Prelude.{◌≡◌, false, ◌&&◌, List, ◌∷◌}
use Rattle.std.proofs.Math.Option.{none, some}
use Rattle.sheet.specs.Sheet.{Sheet}
use Rattle.runs.specs.Visits.{grammar}
use Rattle.runs.specs.Events.{Event}
use Rattle.runs.specs.Acts.{Act, Store, act}
use Rattle.runs.specs.Machine.{Control, go, move, most, Configuration, took, step}
use Rattle.runs.specs.Spells.{Token, events_of_token, is_blank, passes_at}

-- of acts in a row, from the store m on: none before it rejects, and it does
pub data FirstRejects (s : Sheet) : List Act → Store → Act → Type 0 where
  here : {a : Act} {bs : List Act} {m : Store} → act s a m ≡ none → FirstRejects s (a ∷ bs) m a
  later : {b : Act} {bs : List Act} {m : Store} {a : Act} (m' : Store) → act s b m ≡ some m' → FirstRejects s bs m' a → FirstRejects s (b ∷ bs) m a

-- of the acts that an event asks for
pub record EventRejects (s : Sheet) (z : Configuration) (x : Event) (a : Act) : Type 0 where
  pub row : List Act
  pub to : Control
  pub asks : move (grammar s) s.start_nonterminal most z.control x ≡ go row to
  pub first : FirstRejects s row z.store a

-- of events in turn: those before it are taken
pub data EventsReject (s : Sheet) : Configuration → List Event → Act → Type 0 where
  in_first : {z : Configuration} {x : Event} {xs : List Event} {a : Act} → EventRejects s z x a → EventsReject s z (x ∷ xs) a
  in_later : {z : Configuration} {x : Event} {xs : List Event} {a : Act} (z' : Configuration) → step s z x ≡ took z' → EventsReject s z' xs a → EventsReject s z (x ∷ xs) a

-- of a token's events: one, or the start and then the end of an empty tag. White space that passes is no event
pub record TokenRejects (s : Sheet) (z : Configuration) (k : Token) (a : Act) : Type 0 where
  pub is_read : is_blank k && passes_at (grammar s) z.control ≡ false
  pub rejects : EventsReject s z (events_of_token k) a
