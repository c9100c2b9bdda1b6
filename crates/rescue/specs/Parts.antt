-- A salvage run whose stream comes in parts, or with rooms a little at a time: calls each with what the one before has left, against one call.
-- Assumes nothing.
use Rattle.std.specs.Prelude.{◌≡◌, Bool, false, List, [], ◌∷◌, ◌++◌, ℕ, suc, ◌+◌, ◌-◌, ◌≤◌, ◌<◌, length, drop}
use Rattle.std.proofs.Math.Option.{Option, none, some}
use Rattle.text.specs.Chars.{Starts}
use Rattle.tokens.specs.Parts.{CutNumber}
use Rattle.sheet.specs.Sheet.{Sheet}
use Rattle.runs.specs.Machine.{Configuration}
use Rattle.runs.specs.Fits.{NamesFit}
use Rattle.calls.specs.Parts.{EndTold}
use Rattle.salvage.specs.Shape.{RecordTags}
use Rattle.salvage.specs.Salvage.{LostStretch, lost, Salvaged}
use Rattle.rescue.specs.Held.{Mode, between, inside, skipping, HeldSalvage, fresh_salvage, Rescued, as_salvage}
use Rattle.rescue.specs.Call.{larger, RescueCalled}

-- in `whole`, whose first byte is the stream's byte `base`, stands the number of a reference, cut off at 30 or 31 bytes; it stands behind the first byte f of a record, and not past `to`
pub record CutIn (whole : List ℕ) (base f to : ℕ) : Type 0 where
  pub place : ℕ
  pub had : List ℕ
  pub cut : CutNumber had
  pub stands : Starts (drop place whole) had
  pub behind : f ≤ base + place
  pub not_past : base + place ≤ to

-- what calls on parts report, and what one call does. A reference by number that a part cuts off there is 21, and with the bytes behind it it may be 20: so may a stretch's number
pub data SameStretch (whole : List ℕ) (base : ℕ) : LostStretch → LostStretch → Type 0 where
  same_stretch : (d : LostStretch) → SameStretch whole base d d
  cut_stretch : (f l : ℕ) → CutIn whole base f (suc l) → SameStretch whole base (lost f l 21) (lost f l 20)

pub data SameReport (whole : List ℕ) (base : ℕ) : List LostStretch → List LostStretch → Type 0 where
  no_more : SameReport whole base [] []
  and_then : {d d' : LostStretch} {ds ds' : List LostStretch} → SameStretch whole base d d' → SameReport whole base ds ds' → SameReport whole base (d ∷ ds) (d' ∷ ds')

-- where they stand: the same, or passing over behind a record that was so refused; `passed` bytes of the stream are taken
pub data SameMode (whole : List ℕ) (base passed : ℕ) : Mode → Mode → Type 0 where
  same_mode : (m : Mode) → SameMode whole base passed m m
  cut_mode : (z : Configuration) (f : ℕ) → CutIn whole base f passed → SameMode whole base passed (skipping z f 21) (skipping z f 20)

-- the number, and what closes the state: between records it is 01's own rider
pub data SameNumber (whole : List ℕ) (taken : ℕ) : (n : ℕ) (c : Option ℕ) (n' : ℕ) (c' : Option ℕ) → Type 0 where
  same_number : (n : ℕ) (c : Option ℕ) → SameNumber whole taken n c n c
  cut_off : (had : List ℕ) → CutNumber had → Starts (drop taken whole) had → SameNumber whole taken 21 (some 21) 20 (some 20)

-- r is what calls on parts answer, r' what one call on the whole does; `base` bytes of the stream were taken before
pub record SameRescue (whole : List ℕ) (base : ℕ) (r r' : Rescued) : Type 0 where
  pub number : SameNumber whole r.taken r.number r.held.closing r'.number r'.held.closing
  pub taken : r'.taken ≡ r.taken
  pub output : r'.output ≡ r.output
  pub report : SameReport whole base r.report r'.report
  pub waited : r'.waited ≡ r.waited
  pub mode : SameMode whole base r.held.passed r.held.mode r'.held.mode
  pub passed : r'.held.passed ≡ r.held.passed

-- what two calls answer together
abbrev pub both_rescues : Rescued → Rescued → Rescued
both_rescues r₁ r₂ =
    record {
      number = r₂.number;
      taken = r₁.taken + r₂.taken;
      output = r₁.output ++ r₂.output;
      report = r₁.report ++ r₂.report;
      waited = larger r₁.waited r₂.waited;
      held = r₂.held;
    }

-- a record that the run is in began with one of the bytes that were taken
abbrev pub Began : (passed : ℕ) → Mode → Type 0
Began p (between z) = Unit {0}
Began p (inside z y f v) = f < p
Began p (skipping z f n) = Unit {0}

-- r₁ is a first call's answer, r that of one call on the whole: where the first closed the state, they are the same; where it left it open, a second call on the bytes, in the room and
-- with the entries that the first has left goes on, and the two together are the one
abbrev pub RescueContinued : Sheet → RecordTags → List ℕ → Bool → (area room spare base : ℕ) → Rescued → Rescued → Option ℕ → Type 0
RescueContinued a x whole more area room spare base r₁ r none =
    (r₂ : Rescued) × RescueCalled a x (drop r₁.taken whole) more area (room - length r₁.output) (spare - length r₁.report) r₁.held r₂ ×
    SameRescue whole base (both_rescues r₁ r₂) r
RescueContinued a x whole more area room spare base r₁ r (some n) = SameRescue whole base r₁ r

abbrev pub RescueInParts : Sheet → RecordTags → Type 0
RescueInParts a x =
    (s later : List ℕ) (b more : Bool) → EndTold b later more → (area room extra spare entries : ℕ) (h : HeldSalvage) (r₁ r : Rescued) → Began h.passed h.mode →
    RescueCalled a x s b area room spare h r₁ → RescueCalled a x (s ++ later) more area (room + extra) (spare + entries) h r →
    RescueContinued a x (s ++ later) more area (room + extra) (spare + entries) h.passed r₁ r r₁.held.closing

-- calls one after another over a stream, each with what the one before has handed back. whole is what is left of the stream, room and spare what is left of all that is lent: each call
-- gets some of each, and presents again what the one before has left; together they answer r. The last call closes the state, or gets all that is left
pub data RescueFeeds (a : Sheet) (x : RecordTags) (more : Bool) (area : ℕ) : List ℕ → (room spare : ℕ) → HeldSalvage → Rescued → Type 0 where
  at_once : {whole : List ℕ} {room spare : ℕ} {h : HeldSalvage} {r : Rescued} → RescueCalled a x whole more area room spare h r → RescueFeeds a x more area whole room spare h r
  closes : {h : HeldSalvage} (room extra spare entries : ℕ) (s later : List ℕ) (b : Bool) (r₁ : Rescued) (n : ℕ) → EndTold b later more → RescueCalled a x s b area room spare h r₁ →
      r₁.held.closing ≡ some n → RescueFeeds a x more area (s ++ later) (room + extra) (spare + entries) h r₁
  goes_on : {h : HeldSalvage} {r₂ : Rescued} (room extra spare entries : ℕ) (s later : List ℕ) (b : Bool) (r₁ : Rescued) → EndTold b later more → RescueCalled a x s b area room spare h r₁ →
      r₁.held.closing ≡ none →
      RescueFeeds a x more area (drop r₁.taken (s ++ later)) (room + extra - length r₁.output) (spare + entries - length r₁.report) r₁.held r₂ →
      RescueFeeds a x more area (s ++ later) (room + extra) (spare + entries) h (both_rescues r₁ r₂)

-- in whatever parts and rooms, what the calls answer together is what one call on all of it does: number, bytes taken, output, report, the most bytes that waited and what is held; but for a reference by number that
-- a part has cut off
abbrev pub FedAsOne : Sheet → RecordTags → Type 0
FedAsOne a x =
    (more : Bool) (area : ℕ) (whole : List ℕ) (room spare : ℕ) (h : HeldSalvage) (r r' : Rescued) → Began h.passed h.mode → RescueFeeds a x more area whole room spare h r →
    RescueCalled a x whole more area room spare h r' → SameRescue whole h.passed r r'

-- so a stream that is fed from a fresh state to its end, with an entry for each byte in all, is answered as the salvage run over the whole stream answers it
abbrev pub FedSalvages : Sheet → RecordTags → Type 0
FedSalvages a x =
    NamesFit a.names → (area : ℕ) (whole : List ℕ) (room spare : ℕ) (r : Rescued) → RescueFeeds a x false area whole room spare fresh_salvage r → length whole ≤ spare →
    (r' : Rescued) × SameRescue whole 0 r r' × Salvaged a x whole area room (as_salvage r')
