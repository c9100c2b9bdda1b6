-- What a step of the code shows of a step of the meaning, and that it may be followed by another.
-- Assumes nothing.
use Rattle.std.specs.Prelude.{◌≡◌, Bool, true, false, not, List, [], ◌++◌, ℕ, zero, suc, ◌+◌, ◌-◌, ◌*◌, ◌/◌, ◌≤◌, ◌<◌, length, take, drop}
use Rattle.lent.specs.Put.{put}
use Rattle.sheet.specs.Sheet.{Sheet}
use Rattle.salvage.specs.Shape.{RecordTags}
use Rattle.salvage.specs.Salvage.{LostStretch}
use Rattle.rescue.specs.Held.{Mode}
use Rattle.rescue.specs.Step.{Step, on, stop, StepIs}
use Rattle.rescue.specs.Call.{setting}
use Rattle.rescued.specs.Bytes.{entry_width, report_bytes}
use Rattle.turns.specs.declared.Stand.{Stand}
use Rattle.turns.specs.declared.Place.{Place}
use Rattle.turns.specs.declared.Given.{Given}
use Rattle.turns.specs.declared.Turn.{Turn}
use Rattle.turns.specs.Stands.{mode_of, ReadyOn}

-- what a step says
abbrev pub step_goes_on : Step → Bool
step_goes_on (on next m w ds k) = true
step_goes_on (stop n to m ds k) = false

abbrev pub number_in : Step → ℕ
number_in (on next m w ds k) = 0
number_in (stop n to m ds k) = n

abbrev pub place_in : Step → ℕ
place_in (on next m w ds k) = next
place_in (stop n to m ds k) = to

abbrev pub mode_in : Step → Mode
mode_in (on next m w ds k) = m
mode_in (stop n to m ds k) = m

abbrev pub written_in : Step → List ℕ
written_in (on next m w ds k) = w
written_in (stop n to m ds k) = []

abbrev pub told_in : Step → List LostStretch
told_in (on next m w ds k) = ds
told_in (stop n to m ds k) = ds

abbrev pub depth_in : Step → ℕ
depth_in (on next m w ds k) = k
depth_in (stop n to m ds k) = k

-- the code's answer r, and what it leaves, is what the step says
pub record Shown (st : Step) (p : Place) (b' out out' area' rep rep' : List ℕ) (r : Turn) : Type 0 where
  pub goes : r.goes ≡ step_goes_on st
  pub number : r.number ≡ number_in st
  pub at : r.place.at ≡ place_in st
  pub written : r.place.put ≡ p.put + length (written_in st)
  pub told : r.place.told ≡ p.told + length (told_in st)
  pub deep : r.deep ≡ depth_in st
  pub mode : mode_of r.stand b' area' ≡ mode_in st
  pub output : out' ≡ take p.put out ++ (written_in st ++ drop (p.put + length (written_in st)) out)
  pub report : rep' ≡ put true rep (entry_width * p.told) (report_bytes (told_in st))

-- what is left to do: a record can be refused, and reading resume, without a byte being taken
abbrev pub mode_rank : ℕ → ℕ
mode_rank zero = 0
mode_rank (suc zero) = 2
mode_rank (suc (suc m)) = 1

abbrev pub left_to_do : ℕ → Place → Stand → ℕ
left_to_do len p t = 3 * (len - p.at) + mode_rank t.mode

pub record Strode (a : Sheet) (x : RecordTags) (g : Given) (part : List ℕ) (p : Place) (t : Stand) (b b' out out' area area' rep rep' : List ℕ) (r : Turn) : Type 0 where
  pub step : Step
  pub is : StepIs (setting a x part (not g.ended) g.base (length area)) p.at (length out - p.put) (length rep / entry_width - p.told) (mode_of t b area) step
  pub shown : Shown step p b' out out' area' rep rep' r
  pub again : ReadyOn a g part r.place r.stand b' out' area'
  pub out_long : length out' ≡ length out
  pub area_long : length area' ≡ length area
  pub report_long : length rep' ≡ length rep
  pub past : drop r.deep area' ≡ drop r.deep area
  pub deep_in : r.deep ≤ length area
  pub waits_in : r.stand.waits ≤ r.deep
  pub told_in_lem : r.place.told ≤ length rep / entry_width
  pub less : r.goes ≡ true → left_to_do (length part) r.place r.stand < left_to_do (length part) p t
