-- What is handed in and back between two calls, and which numbers close it.
-- Assumes nothing.
use Rattle.std.specs.Prelude.{Bool, true, false, ◌||◌, ℕ, eqb}
use Rattle.std.proofs.Math.Option.{Option, none, some}
use Rattle.runs.specs.Machine.{Configuration, fresh_configuration}

-- what is handed in and back: the run between two tokens, which holds no output, and the number that closed it, if one has
pub record Held : Type 0 where
  pub run : Configuration
  pub closing : Option ℕ

abbrev pub fresh_held : Held
fresh_held = record { run = fresh_configuration; closing = none }

-- 16 and 17 leave the state open, every other number of a run closes it
abbrev pub leaves_open : ℕ → Bool
leaves_open n = eqb n 16 || eqb n 17

abbrev pub closing_of : Bool → ℕ → Option ℕ
closing_of true n = none
closing_of false n = some n

abbrev pub handed : ℕ → Configuration → Held
handed n z = record { run = z; closing = closing_of (leaves_open n) n }
