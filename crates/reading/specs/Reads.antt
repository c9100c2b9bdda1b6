-- What makes a machine read a language: phrases and what they write, and the limits that go with it.
-- Assumes nothing.
use Rattle.std.specs.Prelude.{◌≡◌, List, ◌++◌}
use Rattle.std.proofs.Math.Option.{Option, none, some}
use Rattle.reading.specs.Machine.{Machine, walk}

-- the phrases that keep the limits
pub record Limited {A R : Type 0} (Phrase : List A → R → Type 0) (Fits : R → Type 0) (row : List A) (v : R) : Type 0 where
  pub phrase : Phrase row v
  pub fits : Fits v

-- the machine ends where a phrase ends, with what it writes
pub record Ends {A R : Type 0} (m : Machine A R) (row : List A) (v : R) : Type 0 where
  pub last : m.State
  pub walked : walk m.step m.start row ≡ some last
  pub told : m.value last ≡ some v

pub record ReadBy {A R : Type 0} (m : Machine A R) (Phrase : List A → R → Type 0) (Fits : R → Type 0) : Type 0 where
  pub complete : (row : List A) (v : R) → Phrase row v → Ends m row v
  pub sound : (row : List A) (s : m.State) (v : R) → walk m.step m.start row ≡ some s → m.value s ≡ some v → Phrase row v
  pub shortest : (row : List A) (s : m.State) → walk m.step m.start row ≡ some s → (rest : List A) × Phrase (row ++ rest) (m.finished s)
  pub finished_last : (s : m.State) (v : R) → m.value s ≡ some v → m.finished s ≡ v
  pub grows : (s s' : m.State) (a : A) → m.step s a ≡ some s' → Fits (m.finished s') → Fits (m.finished s)
  pub starts : Fits (m.finished m.start)
