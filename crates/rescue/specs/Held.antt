-- What is handed in and back between two calls of a salvage run, and what a call answers.
-- Assumes nothing.
use Rattle.std.specs.Prelude.{Bool, true, false, List, [], ℕ}
use Rattle.std.proofs.Math.Option.{Option, none}
use Rattle.runs.specs.Machine.{Configuration, Control, fresh_configuration}
use Rattle.salvage.specs.Salvage.{LostStretch, Salvage}

-- where a salvage run stands: between records, in z. In a record that began at the stream's byte f, where the run was in z: it is in y now, and v waits. Or a record that began there
-- was refused with n, the run is again in z, and bytes are passed over until reading resumes
pub data Mode : Type 0 where
  between : (z : Configuration) → Mode
  inside : (z y : Configuration) (f : ℕ) (v : List ℕ) → Mode
  skipping : (z : Configuration) (f n : ℕ) → Mode

-- where it takes tokens: in z or y
abbrev pub run_of : Mode → Configuration
run_of (between z) = z
run_of (inside z y f v) = y
run_of (skipping z f n) = z

abbrev pub control_of : Mode → Control
control_of m = (run_of m).control

abbrev pub reads_tokens : Mode → Bool
reads_tokens (between z) = true
reads_tokens (inside z y f v) = true
reads_tokens (skipping z f n) = false

-- what waits
abbrev pub waiting_in : Mode → List ℕ
waiting_in (between z) = []
waiting_in (inside z y f v) = v
waiting_in (skipping z f n) = []

-- what is handed in and back: where the run stands, the bytes of the stream that were taken so far, and the number that closed it, if one has
pub record HeldSalvage : Type 0 where
  pub mode : Mode
  pub passed : ℕ
  pub closing : Option ℕ

abbrev pub fresh_salvage : HeldSalvage
fresh_salvage = record { mode = between fresh_configuration; passed = 0; closing = none }

-- what a call answers: its number, the bytes taken of the part, the output, the stretches that were dropped whole, by their bytes in the stream, the most bytes that waited at once, and
-- what is handed back
pub record Rescued : Type 0 where
  pub number : ℕ
  pub taken : ℕ
  pub output : List ℕ
  pub report : List LostStretch
  pub waited : ℕ
  pub held : HeldSalvage

-- the answer, as that of a salvage run over a whole stream
abbrev pub as_salvage : Rescued → Salvage
as_salvage r =
    record {
      answer = record { number = r.number; taken = r.taken; output = r.output; held = record { run = run_of r.held.mode; closing = r.held.closing } };
      report = r.report;
    }
