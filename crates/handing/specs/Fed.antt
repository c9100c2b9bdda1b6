-- Calls of the salvage run over bytes, one after another: each with the bytes of the state and of the area that the one before has left.
-- Assumes nothing.
use Rattle.std.specs.Prelude.{◌≡◌, Bool, false, not, List, ◌++◌, ℕ, ◌+◌, ◌-◌, ◌/◌, ◌^◌, ◌≤◌, ◌<◌, length, drop, replicate}
use Rattle.std.proofs.Math.Option.{none, some}
use Rattle.sheet.specs.Sheet.{Sheet, IsSheet}
use Rattle.calls.specs.Parts.{EndTold}
use Rattle.salvage.specs.Shape.{RecordTags}
use Rattle.salvage.specs.Shaped.{record_tags}
use Rattle.salvage.specs.Salvage.{Salvaged}
use Rattle.rescue.specs.Held.{fresh_salvage, Rescued, as_salvage}
use Rattle.rescue.specs.Parts.{both_rescues, SameRescue, RescueFeeds}
use Rattle.rescued.specs.declared.SalvageCounts.{SalvageCounts}
use Rattle.state.specs.Bounds.{state_width}
use Rattle.state.specs.Bytes.{bytes_of}
use Rattle.state.specs.Changes.{fresh_state}
use Rattle.rescued.specs.Bytes.{salvage_width, entry_width, salvage_in, salvage_bytes}
use Rattle.rescued.specs.Salvaged.{Lent, SalvageRan}

-- one call that runs on a part, with so much room and so many entries, from the bytes b of the state and m of the area, which it leaves as b' and m'; it answers x
pub record SalvageCall (s part : List ℕ) (more : Bool) (room spare : ℕ) (b m b' m' : List ℕ) (x : Rescued) : Type 0 where
  pub ended : Bool
  pub lent : Lent
  pub left : Lent
  pub counts : SalvageCounts
  pub ran : SalvageRan s part ended lent left counts
  pub told : not ended ≡ more
  pub state : lent.state ≡ b
  pub area : lent.area ≡ m
  pub state_left : left.state ≡ b'
  pub area_left : left.area ≡ m'
  pub output : length lent.output ≡ room
  pub entries : length lent.report / entry_width ≡ spare
  pub answer : ran.answer ≡ x

-- the calls feed a stream, as calls of the meaning do
pub data SalvageFeeds (s : List ℕ) (more : Bool) : List ℕ → (room spare : ℕ) (b m : List ℕ) → Rescued → Type 0 where
  at_once : {whole : List ℕ} {room spare : ℕ} {b m : List ℕ} {r : Rescued} (b' m' : List ℕ) → SalvageCall s whole more room spare b m b' m' r → SalvageFeeds s more whole room spare b m r
  closes : {b m : List ℕ} (b' m' : List ℕ) (room extra spare entries : ℕ) (part later : List ℕ) (more' : Bool) (r₁ : Rescued) (n : ℕ) → EndTold more' later more →
      SalvageCall s part more' room spare b m b' m' r₁ → r₁.held.closing ≡ some n → SalvageFeeds s more (part ++ later) (room + extra) (spare + entries) b m r₁
  goes_on : {b m : List ℕ} {r₂ : Rescued} (b' m' : List ℕ) (room extra spare entries : ℕ) (part later : List ℕ) (more' : Bool) (r₁ : Rescued) → EndTold more' later more →
      SalvageCall s part more' room spare b m b' m' r₁ → r₁.held.closing ≡ none →
      SalvageFeeds s more (drop r₁.taken (part ++ later)) (room + extra - length r₁.output) (spare + entries - length r₁.report) b' m' r₂ →
      SalvageFeeds s more (part ++ later) (room + extra) (spare + entries) b m (both_rescues r₁ r₂)

-- such calls are calls of the meaning, on what the bytes stand for
abbrev pub BytesFeed : Type 0
BytesFeed =
    (s : List ℕ) (a : Sheet) (x : RecordTags) → IsSheet s a → record_tags a ≡ some x → (more : Bool) (whole : List ℕ) (room spare : ℕ) (b m : List ℕ) (r : Rescued) → length m < 2 ^ 64 →
    SalvageFeeds s more whole room spare b m r → RescueFeeds a x more (length m) whole room spare (salvage_in b m) r

-- the bytes of a fresh state are those of a fresh state of 01's run, and 0 for the rest; they stand for a fresh state, whatever the area holds
pub record FreshBytes (m : List ℕ) : Type 0 where
  pub are : salvage_bytes fresh_salvage ≡ bytes_of fresh_state ++ replicate (salvage_width - state_width) 0
  pub stand : salvage_in (salvage_bytes fresh_salvage) m ≡ fresh_salvage

abbrev pub FreshStands : Type 0
FreshStands = (s : List ℕ) (a : Sheet) → IsSheet s a → (m : List ℕ) → length m < 2 ^ 64 → FreshBytes m

-- so a stream that is fed from fresh bytes to its end, with an entry for each byte in all, is answered as the salvage run over the whole stream answers it, but for a reference by number
-- that a part has cut off
abbrev pub BytesSalvage : Type 0
BytesSalvage =
    (s : List ℕ) (a : Sheet) (x : RecordTags) → IsSheet s a → record_tags a ≡ some x → (whole : List ℕ) (room spare : ℕ) (m : List ℕ) (r : Rescued) → length m < 2 ^ 64 →
    SalvageFeeds s false whole room spare (salvage_bytes fresh_salvage) m r → length whole ≤ spare → (r' : Rescued) × SameRescue whole 0 r r' × Salvaged a x whole (length m) room (as_salvage r')
