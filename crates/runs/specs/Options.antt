-- Options: one after another, the first that is there, and what is there where a test holds.
-- Assumes nothing.
use Rattle.std.specs.Prelude.{Bool, true, false}
use Rattle.std.proofs.Math.Option.{Option, none, some}

abbrev pub bind {ℓ κ} : {A : Type ℓ} {B : Type κ} → Option A → (A → Option B) → Option B
bind none f = none
bind (some a) f = f a

abbrev pub or_else {ℓ} : {A : Type ℓ} → Option A → Option A → Option A
or_else none o = o
or_else (some a) o = some a

abbrev pub when_true {ℓ} : {A : Type ℓ} → Bool → A → Option A
when_true true a = some a
when_true false a = none
