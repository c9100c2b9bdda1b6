-- When a run is steady: every character leaves it as it is, but for the same number of visits, and is all that is written.
-- Assumes nothing.
use Rattle.std.specs.Prelude.{◌≡◌, Bool, List, [], ℕ, ◌+◌}
use Rattle.output.specs.Escape.{character, render}
use Rattle.sheet.specs.Sheet.{Sheet}
use Rattle.runs.specs.Visits.{while_on}
use Rattle.runs.specs.Machine.{Configuration, took}
use Rattle.runs.specs.Spells.{literal, step_token}
use Rattle.calls.specs.Limits.{silent, output_of}

-- the same run, without output, at another count of visits
abbrev pub counting : Configuration → ℕ → Configuration
counting m n =
    record {
      control = m.control;
      store = record { kept = m.store.kept; env = record { values = m.store.env.values; echo = m.store.env.echo; out = []; count = n } };
    }

-- what a character is written as
abbrev pub shown : Bool → ℕ → List ℕ
shown on c = render (while_on on (character c))

-- the character c, from the run at the count n: k visits, and itself where echo is on
pub record TakesCharacter (a : Sheet) (on : Bool) (k : ℕ) (m : Configuration) (c n : ℕ) : Type 0 where
  pub reached : Configuration
  pub stepped : step_token a (counting m n) (literal c) ≡ took reached
  pub leaves : silent reached ≡ counting m (n + k)
  pub writes : output_of reached ≡ shown on c

abbrev pub Steady : Sheet → Bool → ℕ → Configuration → Type 0
Steady a on k m = (c n : ℕ) → TakesCharacter a on k m c n
