-- One call of a salvage run on a part of the stream: step after step, and then it stops.
-- Assumes nothing.
use Rattle.std.specs.Prelude.{◌≡◌, Bool, List, [], ◌++◌, ℕ, ◌+◌, ◌-◌, length}
use Rattle.std.proofs.Math.Option.{Option, none, some}
use Rattle.sheet.specs.Sheet.{Sheet}
use Rattle.calls.specs.Held.{leaves_open, closing_of}
use Rattle.calls.specs.Call.{room_left, again}
use Rattle.salvage.specs.Shape.{RecordTags}
use Rattle.salvage.specs.Salvage.{LostStretch}
use Rattle.rescue.specs.Held.{Mode, HeldSalvage, Rescued}
use Rattle.rescue.specs.Step.{Setting, in_stream, on, stop, StepIs}

-- the call stops with n at `to`, in the mode m: the bytes before it are taken, and no more is written
abbrev pub halted : Setting → (n to : ℕ) → Mode → List LostStretch → (k : ℕ) → Rescued
halted c n to m ds k =
    record { number = n; taken = to; output = []; report = ds; waited = k; held = record { mode = m; passed = in_stream c to; closing = closing_of (leaves_open n) n } }

abbrev pub larger : ℕ → ℕ → ℕ
larger k n = k + (n - k)

-- the same after a step with which w was written, ds were reported and k bytes waited
abbrev pub after_step : List ℕ → List LostStretch → (k : ℕ) → Rescued → Rescued
after_step w ds k r =
    record { number = r.number; taken = r.taken; output = w ++ r.output; report = ds ++ r.report; waited = larger k r.waited; held = r.held }

-- the entries left after ds were reported
abbrev pub spare_left : ℕ → List LostStretch → ℕ
spare_left spare ds = spare - length ds

-- the call from the place `at` on, with so much room and so many entries left, in the mode m
pub data Rescues (c : Setting) : (at room spare : ℕ) → Mode → Rescued → Type 0 where
  goes : {at room spare : ℕ} {m : Mode} {r : Rescued} (next : ℕ) (m' : Mode) (w : List ℕ) (ds : List LostStretch) (k : ℕ) → StepIs c at room spare m (on next m' w ds k) →
      Rescues c next (room_left room w) (spare_left spare ds) m' r → Rescues c at room spare m (after_step w ds k r)
  halts : {at room spare : ℕ} {m : Mode} (n to : ℕ) (m' : Mode) (ds : List LostStretch) (k : ℕ) → StepIs c at room spare m (stop n to m' ds k) →
      Rescues c at room spare m (halted c n to m' ds k)

-- a closed state: 28 after 0, and any other number again; nothing is taken, written or reported, and what is held is handed back as given
abbrev pub repeats : ℕ → HeldSalvage → Rescued
repeats n h = record { number = again n; taken = 0; output = []; report = []; waited = 0; held = h }

abbrev pub setting : Sheet → RecordTags → List ℕ → (more : Bool) (before area : ℕ) → Setting
setting a x part more before area = record { sheet = a; tags = x; part = part; more = more; before = before; area = area }

abbrev pub RescuedBy : Sheet → RecordTags → List ℕ → Bool → (area room spare : ℕ) → HeldSalvage → Option ℕ → Rescued → Type 0
RescuedBy a x part more area room spare h none r = Rescues (setting a x part more h.passed area) 0 room spare h.mode r
RescuedBy a x part more area room spare h (some n) r = r ≡ repeats n h

-- r is what a call answers: with the sheet a and its tags x, a part of the stream, whether more is to come, an area of so many bytes for what waits, so much room for the output, so many
-- entries of the report, and what is handed in
abbrev pub RescueCalled : Sheet → RecordTags → List ℕ → Bool → (area room spare : ℕ) → HeldSalvage → Rescued → Type 0
RescueCalled a x part more area room spare h r = RescuedBy a x part more area room spare h h.closing r
