-- A machine that reads a row, one after the other, and keeps limits: it goes only where its shortest continuation keeps them.
-- Assumes nothing.
use Rattle.std.proofs.Math.Option.{Option, none, some}
use Rattle.std.specs.Prelude.{List, [], ◌∷◌}

pub record Machine (A R : Type 0) : Type 1 where
  pub State : Type 0
  pub start : State
  pub step : State → A → Option State  -- by the grammar alone
  pub value : State → Option R  -- what is written, where the row may end here
  pub finished : State → R  -- what the shortest continuation writes

abbrev pub and_then : {S : Type 0} → Option S → (S → Option S) → Option S
and_then none f = none
and_then (some s) f = f s

-- by the grammar alone
abbrev pub walk : {A S : Type 0} → (S → A → Option S) → S → List A → Option S
walk step s [] = some s
walk step s (a ∷ l) = and_then (step s a) (λ s'. walk step s' l)

abbrev pub only_where : {S : Type 0} {P : Type 0} → Dec P → S → Option S
only_where (yes h) s = some s
only_where (no h) s = none

-- with the limits
abbrev pub next : {A R : Type 0} (m : Machine A R) {Fits : R → Type 0} → ((r : R) → Dec (Fits r)) → m.State → A → Option m.State
next m fits s a = and_then (m.step s a) (λ s'. only_where (fits (m.finished s')) s')
