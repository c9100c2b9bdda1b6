-- What a run over a part comes to, step after step: its answer, as the code holds it, and what is left of the lent memory.
-- Assumes nothing.
use Rattle.std.specs.Prelude.{◌≡◌, not, List, ◌++◌, ℕ, ◌+◌, ◌-◌, ◌*◌, ◌/◌, ◌≤◌, length, drop}
use Rattle.sheet.specs.Sheet.{Sheet}
use Rattle.calls.specs.Held.{leaves_open, closing_of}
use Rattle.salvage.specs.Shape.{RecordTags}
use Rattle.salvage.specs.Salvage.{LostStretch}
use Rattle.salvage.specs.Resumption.{record_start, root_end}
use Rattle.rescue.specs.Held.{Mode, Rescued}
use Rattle.rescue.specs.Call.{after_step, Rescues, setting}
use Rattle.rescued.specs.Bytes.{entry_width, report_bytes}
use Rattle.turns.specs.declared.Stand.{Stand}
use Rattle.turns.specs.declared.Place.{Place}
use Rattle.turns.specs.declared.Given.{Given}
use Rattle.turns.specs.Stands.{mode_of, Grounds, ReadyOn}
use Rattle.rescuer.specs.declared.Ending.{Ending}

-- nothing is taken, written or reported yet
abbrev pub at_start : Place
at_start = record { at = 0; put = 0; told = 0 }

-- the two byte strings at which reading resumes
pub record ResumptionIs (s : List ℕ) (tag : ℕ) (start end : List ℕ) : Type 0 where
  pub start_is : (G : Grounds s tag) → start ≡ record_start G.sheet G.tags
  pub end_is : (G : Grounds s tag) → end ≡ root_end G.sheet G.tags

-- under way: what is written and reported so far stands first in the lent memory, the area past what waited is as lent, and whatever the run answers from here on, it answers that behind
-- these from its start on
pub record Went (a : Sheet) (x : RecordTags) (g : Given) (part : List ℕ) (t₀ : Stand) (b₀ out₀ area₀ rep₀ : List ℕ) (p : Place) (t : Stand) (deep : ℕ) (b out area rep : List ℕ) : Type 0 where
  pub ready : ReadyOn a g part p t b out area
  pub told_in_lem : p.told ≤ length rep / entry_width
  pub out_long : length out ≡ length out₀
  pub area_long : length area ≡ length area₀
  pub report_long : length rep ≡ length rep₀
  pub written : List ℕ
  pub as_long : length written ≡ p.put
  pub output : out ≡ written ++ drop p.put out₀
  pub lost_so : List LostStretch
  pub as_many : length lost_so ≡ p.told
  pub report : rep ≡ report_bytes lost_so ++ drop (entry_width * p.told) rep₀
  pub past : drop deep area ≡ drop deep area₀
  pub deep_in : deep ≤ length area₀
  pub rest : (r : Rescued) → Rescues (setting a x part (not g.ended) g.base (length area₀)) p.at (length out₀ - p.put) (length rep₀ / entry_width - p.told) (mode_of t b area) r →
      Rescues (setting a x part (not g.ended) g.base (length area₀)) 0 (length out₀) (length rep₀ / entry_width) (mode_of t₀ b₀ area₀) (after_step written lost_so deep r)

-- the run has stopped
pub record RanOn (a : Sheet) (x : RecordTags) (g : Given) (part : List ℕ) (t₀ : Stand) (b₀ b out₀ out area₀ area rep₀ rep : List ℕ) (r : Ending) : Type 0 where
  pub answer : Rescued
  pub rescues : Rescues (setting a x part (not g.ended) g.base (length area₀)) 0 (length out₀) (length rep₀ / entry_width) (mode_of t₀ b₀ area₀) answer
  pub number : r.number ≡ answer.number
  pub few : r.number ≤ 30
  pub taken : r.place.at ≡ answer.taken
  pub written : r.place.put ≡ length answer.output
  pub reported : r.place.told ≡ length answer.report
  pub waited : r.deep ≡ answer.waited
  pub output : out ≡ answer.output ++ drop (length answer.output) out₀
  pub report : rep ≡ report_bytes answer.report ++ drop (entry_width * r.place.told) rep₀
  pub mode : mode_of r.stand b area ≡ answer.held.mode
  pub passed : answer.held.passed ≡ g.base + r.place.at
  pub closing : answer.held.closing ≡ closing_of (leaves_open r.number) r.number
  pub ready : ReadyOn a g part r.place r.stand b out area
  pub area_long : length area ≡ length area₀
  pub past : drop r.deep area ≡ drop r.deep area₀
  pub deep_in : r.deep ≤ length area₀
  pub waits_in : r.stand.waits ≤ r.deep

pub record StepsRanAs (s : List ℕ) (g : Given) (part : List ℕ) (t₀ : Stand) (b₀ b out₀ out area₀ area rep₀ rep : List ℕ) (r : Ending) : Type 0 where
  pub grounds : Grounds s g.tag
  pub ran : RanOn grounds.sheet grounds.tags g part t₀ b₀ b out₀ out area₀ area rep₀ rep r
