-- What is promised of a salvage run over a whole stream.
-- Assumes nothing.
use Rattle.std.specs.Prelude.{◌≡◌, ◌⊎◌, Bool, true, false, List, [], ◌∷◌, ℕ, suc, ◌<◌, length}
use Rattle.sheet.specs.Sheet.{Sheet}
use Rattle.runs.specs.Machine.{Configuration, fresh_configuration}
use Rattle.calls.specs.Held.{fresh_held}
use Rattle.calls.specs.Call.{Result, Called}
use Rattle.salvage.specs.Shape.{RecordTags}
use Rattle.salvage.specs.Salvage.{RecordAt, whole, InRecord, LostStretch, Salvage, without_report, Salvaged}
use Rattle.salvage.specs.NeverSent.{ComesTo}
use Rattle.salvage.specs.Cut.{ends_reading, cut_stream, over_inside, RisesIn}

-- any two answers are equal
abbrev pub OneSalvage : Sheet → RecordTags → Type 0
OneSalvage a x = (s : List ℕ) (area room : ℕ) (r r' : Salvage) → Salvaged a x s area room r → Salvaged a x s area room r' → r ≡ r'

-- every stream has one
abbrev pub SomeSalvage : Sheet → RecordTags → Type 0
SomeSalvage a x = (s : List ℕ) (area room : ℕ) → (r : Salvage) × Salvaged a x s area room r

-- the report's stretches rise in the stream, and none overlaps another
abbrev pub ReportRises : Sheet → RecordTags → Type 0
ReportRises a x = (s : List ℕ) (area room : ℕ) (r : Salvage) → Salvaged a x s area room r → RisesIn 0 (length s) r.report

-- a stretch with 30 ends just before the token that is not taken, where the run stops
abbrev pub OverEndsAt : ℕ → List LostStretch → Type 0
OverEndsAt taken [] = Unit {0}
OverEndsAt taken (d ∷ ds) = (ends_reading d.number ≡ true → suc d.last ≡ taken) × OverEndsAt taken ds

abbrev pub OverEnds : Sheet → RecordTags → Type 0
OverEnds a x = (s : List ℕ) (area room : ℕ) (r : Salvage) → Salvaged a x s area room r → OverEndsAt r.answer.taken r.report

-- the number that 01's run gives on the cut stream: a stream that the count cut off inside a record (30) is one without its root's end
abbrev pub number_on_cut : Bool → ℕ → ℕ
number_on_cut true n = 27
number_on_cut false n = n

-- the answer is that of 01's run on the stream c, declared ended, in the same room: number, output, and the run with its visits, attributes, echo and open elements
pub record AnswersAs (a : Sheet) (c : List ℕ) (room number : ℕ) (r : Result) : Type 0 where
  pub answer : Result
  pub called : Called a c false room fresh_held answer
  pub is_number : answer.number ≡ number
  pub is_output : answer.output ≡ r.output
  pub is_run : answer.held.run ≡ r.held.run

-- the salvage run answers, writes and counts what 01's run does on the cut stream; but 30 inside a record stays 30, and 17 is of rooms
abbrev pub SalvageIsCut : Sheet → RecordTags → Type 0
SalvageIsCut a x =
    (s : List ℕ) (area room : ℕ) (r : Salvage) → Salvaged a x s area room r → (r.answer.number ≡ 17 → ⊥) →
    AnswersAs a (cut_stream s r.report) room (number_on_cut (over_inside r.report) r.answer.number) r.answer

-- from a place between records the run comes to a record that is whole where the area is wide, and whose output is longer than the area is
pub record LongRecord (a : Sheet) (x : RecordTags) (s : List ℕ) (area from room : ℕ) (z : Configuration) : Type 0 where
  pub at : ℕ
  pub written : List ℕ
  pub left : ℕ
  pub stands_in : Configuration
  pub comes : ComesTo a x s area at from room z written [] left stands_in
  pub is_record : RecordAt a x s at stands_in
  pub wide : ℕ
  pub to : ℕ
  pub next : ℕ
  pub ends_in : Configuration
  pub goes_on_in : Configuration
  pub output : List ℕ
  pub is_whole : InRecord a s wide at stands_in [] (whole to ends_in next goes_on_in output)
  pub longer : area < length output

-- a stream that is never refused gives an empty report and today's output, visits and state; or 17, and a record's output is longer than the area
abbrev pub NeverRefused : Sheet → RecordTags → Type 0
NeverRefused a x =
    (s : List ℕ) (area room : ℕ) (r : Salvage) → Salvaged a x s area room r → (today : Result) → Called a s false room fresh_held today → today.number ≡ 0 →
    (r ≡ without_report today) ⊎ ((r.answer.number ≡ 17) × LongRecord a x s area 0 room fresh_configuration)
