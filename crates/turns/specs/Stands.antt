-- Where the code of a salvage run stands, and what that means; and what a step may begin from.
-- Assumes nothing.
use Rattle.std.specs.Prelude.{◌≡◌, true, false, List, [], ℕ, zero, suc, ◌+◌, ◌≤◌, ◌<◌, ◌^◌, length, take}
use Rattle.std.proofs.Math.Option.{some}
use Rattle.sheet.specs.Sheet.{Sheet, IsSheet}
use Rattle.runs.specs.Taken.{Passed}
use Rattle.runs.specs.Visits.{most_visits}
use Rattle.fit.specs.RunFits.{RunFits}
use Rattle.salvage.specs.Shape.{RecordTags}
use Rattle.salvage.specs.Shaped.{record_tags}
use Rattle.salvage.specs.Salvage.{damaged}
use Rattle.state.specs.Bounds.{stack_width}
use Rattle.state.specs.Changes.{not_closed}
use Rattle.state.specs.Meaning.{meaning_of, Shaped}
use Rattle.live.specs.declared.Live.{Live}
use Rattle.live.specs.Live.{full}
use Rattle.tokens.specs.declared.Event.{Event}
use Rattle.steps.specs.Parts.{ReadyAt}
use Rattle.steps.specs.Taken.{EventIn}
use Rattle.rescue.specs.Held.{Mode, between, inside, skipping}
use Rattle.turns.specs.declared.Stand.{Stand}
use Rattle.turns.specs.declared.Place.{Place}
use Rattle.turns.specs.declared.Given.{Given}
use Rattle.turns.specs.declared.Turn.{Turn}

abbrev pub between_in : Live → Stand
between_in h = record { mode = 0; live = h; before = h; first = 0; number = 0; waits = 0 }

abbrev pub inside_in : (before h : Live) (first waits : ℕ) → Stand
inside_in z h f k = record { mode = 1; live = h; before = z; first = f; number = 0; waits = k }

abbrev pub skipping_in : (before : Live) (first number : ℕ) → Stand
skipping_in z f n = record { mode = 2; live = z; before = z; first = f; number = n; waits = 0 }

abbrev pub going : Stand → (at put told deep : ℕ) → Turn
going t i k j d = record { goes = true; number = 0; place = record { at = i; put = k; told = j }; deep = d; stand = t }

abbrev pub stopping : Stand → (n at put told deep : ℕ) → Turn
stopping t n i k j d = record { goes = false; number = n; place = record { at = i; put = k; told = j }; deep = d; stand = t }

-- the mode that a stand is, over the bytes of the stack and of the area where a record waits
abbrev pub mode_by : ℕ → Stand → (stack area : List ℕ) → Mode
mode_by zero t b d = between (meaning_of (full t.live b))
mode_by (suc zero) t b d = inside (meaning_of (full t.before [])) (meaning_of (full t.live b)) t.first (take t.waits d)
mode_by (suc (suc m)) t b d = skipping (meaning_of (full t.live b)) t.first t.number

abbrev pub mode_of : Stand → (stack area : List ℕ) → Mode
mode_of t b d = mode_by t.mode t b d

-- a run that stands in h over the stack b: it is open, fits the sheet, and its count is within the limit
pub record RunStands (a : Sheet) (h : Live) (b : List ℕ) : Type 0 where
  pub count : h.count ≤ most_visits
  pub is_open : h.closed ≡ not_closed
  pub shaped : Shaped (full h b)
  pub fits : RunFits a (meaning_of (full h b))

-- what holds in each mode, before the stream's byte `past`: that a record began earlier, and what returns; and the number that refused it
pub data HoldsIn (a : Sheet) (past : ℕ) (t : Stand) : ℕ → Type 0 where
  holds_between : t.waits ≡ 0 → HoldsIn a past t 0
  holds_inside : t.first < past → t.before.depth ≡ 1 → RunStands a t.before [] → HoldsIn a past t 1
  holds_skipping : damaged t.number ≡ true → t.waits ≡ 0 → HoldsIn a past t 2

-- the bytes are a sheet that passes, of the shape, with this tag for its records
pub record Grounds (s : List ℕ) (record_tag : ℕ) : Type 0 where
  pub sheet : Sheet
  pub is_sheet : IsSheet s sheet
  pub passed : Passed sheet
  pub tags : RecordTags
  pub of_shape : record_tags sheet ≡ some tags
  pub record_is : tags.record_tag ≡ record_tag

-- a step may begin, under the sheet a
pub record ReadyOn (a : Sheet) (g : Given) (part : List ℕ) (p : Place) (t : Stand) (stack out area : List ℕ) : Type 0 where
  pub within : p.at ≤ length part
  pub far : g.base + length part ≤ 2 ^ 62
  pub room : p.put ≤ length out
  pub waits : t.waits ≤ length area
  pub long : stack_width ≤ length stack
  pub stands : RunStands a t.live stack
  pub holds : HoldsIn a (g.base + p.at) t t.mode

pub record Ready (s : List ℕ) (g : Given) (part : List ℕ) (p : Place) (t : Stand) (stack out area : List ℕ) : Type 0 where
  pub grounds : Grounds s g.tag
  pub on : ReadyOn grounds.sheet g part p t stack out area

-- the run can take a token
pub record MayTake (s : List ℕ) (h : Live) (b part : List ℕ) (e : Event) : Type 0 where
  pub ready : ReadyAt s h b
  pub event : EventIn part e
  pub count : h.count ≤ most_visits
