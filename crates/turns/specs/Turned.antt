-- What each part of a step answers and leaves, as the code holds it.
-- Assumes nothing.
use Rattle.std.specs.Prelude.{◌≡◌, Bool, true, false, not, cond, ◌&&◌, List, ℕ, ◌+◌, ◌-◌, ◌*◌, ◌/◌, ◌≤◌, ◌<◌, eqb, length, take, drop}
use Rattle.lent.specs.Put.{put}
use Rattle.tokens.specs.declared.Event.{Event}
use Rattle.tokens.specs.declared.Answer.{Answer}
use Rattle.tokens.specs.declared.Answer.TheVariants.{Token as Read}
use Rattle.tokens.specs.declared.Cursor.{Cursor}
use Rattle.tokens.specs.Stream.{ReadAs}
use Rattle.sheet.specs.Sheet.{Sheet, IsSheet}
use Rattle.calls.specs.Held.{leaves_open}
use Rattle.calls.specs.Names.{tag_named, token_of}
use Rattle.runs.specs.Machine.{same_tag}
use Rattle.salvage.specs.Salvage.{starts_with, lost, damaged}
use Rattle.salvaging.specs.declared.Resumed.{Resumed}
use Rattle.salvaging.specs.declared.Resumed.TheVariants.{Here, Waits, Nowhere}
use Rattle.salvaging.specs.Resumed.{ResumedIs}
use Rattle.state.specs.Meaning.{meaning_of, Shaped}
use Rattle.live.specs.declared.Live.{Live}
use Rattle.live.specs.Live.{full}
use Rattle.steps.specs.declared.Stepped.{Stepped}
use Rattle.steps.specs.Seen.{whole}
use Rattle.steps.specs.Parts.{OverStack}
use Rattle.steps.specs.Taken.{TakenAs}
use Rattle.converter.specs.Inner.{NumberedAs}
use Rattle.rescued.specs.Bytes.{entry_width, entry_bytes}
use Rattle.turns.specs.declared.Stand.{Stand}
use Rattle.turns.specs.declared.Place.{Place}
use Rattle.turns.specs.declared.Given.{Given}
use Rattle.turns.specs.declared.Turn.{Turn}
use Rattle.turns.specs.Stands.{between_in, inside_in, skipping_in, going, stopping}

-- an entry of the report was written, or there was no room for it
pub data ToldAs (rep : List ℕ) (told first last number : ℕ) (rep' : List ℕ) : Bool → Type 0 where
  no_entry : length rep / entry_width ≤ told → rep' ≡ rep → ToldAs rep told first last number rep' false
  entry : told < length rep / entry_width → rep' ≡ put true rep (entry_width * told) (entry_bytes (lost first last number)) → ToldAs rep told first last number rep' true

-- where a record that is dropped for good ends
abbrev pub dropped_end : (number end token : ℕ) → ℕ
dropped_end n end token = cond (eqb n 27) end token - 1

-- a record stops with the number n at a place
pub data BrokenAs (t : Stand) (z : Live) (f n base len : ℕ) (p : Place) (rep rep' : List ℕ) (r : Turn) : Type 0 where
  stays : leaves_open n ≡ true → r ≡ stopping t n p.at p.put p.told t.waits → rep' ≡ rep → BrokenAs t z f n base len p rep rep' r
  drops : leaves_open n ≡ false → damaged n ≡ true → f < base + p.at → r ≡ going (skipping_in z f n) p.at p.put p.told t.waits → rep' ≡ rep → BrokenAs t z f n base len p rep rep' r
  drops_first : leaves_open n ≡ false → damaged n ≡ true → base + p.at ≤ f → r ≡ going (skipping_in z f n) (p.at + 1) p.put p.told t.waits → rep' ≡ rep →
      BrokenAs t z f n base len p rep rep' r
  nothing_lost : leaves_open n ≡ false → damaged n ≡ false → (n ≡ 27 → ⊥) → base + p.at ≤ f → r ≡ stopping (between_in z) n p.at p.put p.told t.waits → rep' ≡ rep →
      BrokenAs t z f n base len p rep rep' r
  no_space : leaves_open n ≡ false → damaged n ≡ false → ((n ≡ 27 → ⊥) → f < base + p.at) → length rep / entry_width ≤ p.told →
      r ≡ stopping t 17 p.at p.put p.told t.waits → rep' ≡ rep → BrokenAs t z f n base len p rep rep' r
  closes : leaves_open n ≡ false → damaged n ≡ false → ((n ≡ 27 → ⊥) → f < base + p.at) → p.told < length rep / entry_width →
      r ≡ stopping (between_in z) n p.at p.put (p.told + 1) t.waits → rep' ≡ put true rep (entry_width * p.told) (entry_bytes (lost f (dropped_end n (base + len) (base + p.at)) n)) →
      BrokenAs t z f n base len p rep rep' r

-- whether a name is that of a tag, and whether a token begins a record
pub record NamedAs (s part : List ℕ) (from len t : ℕ) (b : Bool) : Type 0 where
  pub is : (a : Sheet) → IsSheet s a → t < 256 → b ≡ same_tag (tag_named a.names (take len (drop from part))) t

pub record BeginsAs (s part : List ℕ) (e : Event) (t depth : ℕ) (b : Bool) : Type 0 where
  pub is : (a : Sheet) → IsSheet s a → t < 256 → b ≡ (eqb depth 1 && starts_with t (token_of a part e))

-- what a record's token came to, which q is what taking it came to
pub data RecordEnds (q : Stepped) (base : ℕ) (z : Live) (f len next : ℕ) (p : Place) (t : Stand) (out out' area' rep rep' : List ℕ) (r : Turn) : Type 0 where
  breaks_off : (q.number ≡ 0 → ⊥) → BrokenAs t z f q.number base len p rep rep' r → out' ≡ out → RecordEnds q base z f len next p t out out' area' rep rep' r
  goes_on : q.number ≡ 0 → (q.live.depth ≡ 1 → ⊥) → r ≡ going (inside_in z q.live f q.at) next p.put p.told q.at → out' ≡ out → rep' ≡ rep →
      RecordEnds q base z f len next p t out out' area' rep rep' r
  no_output : q.number ≡ 0 → q.live.depth ≡ 1 → length out - p.put < q.at → r ≡ stopping t 17 p.at p.put p.told q.at → out' ≡ out → rep' ≡ rep →
      RecordEnds q base z f len next p t out out' area' rep rep' r
  is_whole : q.number ≡ 0 → q.live.depth ≡ 1 → q.at ≤ length out - p.put → r ≡ going (between_in q.live) next (p.put + q.at) p.told q.at →
      out' ≡ put true out p.put (take q.at area') → rep' ≡ rep → RecordEnds q base z f len next p t out out' area' rep rep' r

pub record RecordTokenAs (s : List ℕ) (base : ℕ) (z : Live) (f : ℕ) (part : List ℕ) (e : Event) (next : ℕ) (p : Place) (t : Stand) (b b' out out' area area' rep rep' : List ℕ) (r : Turn) : Type 0 where
  pub taking : Stepped
  pub takes : OverStack t.live b b' (TakenAs s part e (full t.live b) area t.waits (whole taking b') area')
  pub ends : RecordEnds taking base z f (length part) next p t out out' area' rep rep' r

-- what another token came to
pub data OtherEnds (q : Stepped) (next : ℕ) (p : Place) (t : Stand) (r : Turn) : Type 0 where
  refused : (q.number ≡ 0 → ⊥) → r ≡ stopping t q.number p.at p.put p.told t.waits → OtherEnds q next p t r
  passes : q.number ≡ 0 → r ≡ going (between_in q.live) next q.at p.told 0 → OtherEnds q next p t r

pub record OtherTokenAs (s part : List ℕ) (e : Event) (next : ℕ) (p : Place) (t : Stand) (b b' out out' : List ℕ) (r : Turn) : Type 0 where
  pub taking : Stepped
  pub takes : OverStack t.live b b' (TakenAs s part e (full t.live b) out p.put (whole taking b') out')
  pub ends : OtherEnds taking next p t r

-- reading resumes, or does not in this part
pub data ResumesAs (t : Stand) (to base : ℕ) (p : Place) (rep rep' : List ℕ) (r : Turn) : Type 0 where
  no_entry_left : length rep / entry_width ≤ p.told → r ≡ stopping t 17 to p.put p.told t.waits → rep' ≡ rep → ResumesAs t to base p rep rep' r
  resumed : p.told < length rep / entry_width → r ≡ going (between_in t.live) to p.put (p.told + 1) 0 →
      rep' ≡ put true rep (entry_width * p.told) (entry_bytes (lost t.first (base + to - 1) t.number)) → ResumesAs t to base p rep rep' r

pub data RanOutAs (t : Stand) (to len : ℕ) (g : Given) (p : Place) (rep rep' : List ℕ) (r : Turn) : Type 0 where
  more_comes : g.ended ≡ false → r ≡ stopping t 16 to p.put p.told t.waits → rep' ≡ rep → RanOutAs t to len g p rep rep' r
  no_entry_at_end : g.ended ≡ true → length rep / entry_width ≤ p.told → r ≡ stopping t 17 len p.put p.told t.waits → rep' ≡ rep → RanOutAs t to len g p rep rep' r
  lost_at_end : g.ended ≡ true → p.told < length rep / entry_width → r ≡ stopping (between_in t.live) 27 len p.put (p.told + 1) 0 →
      rep' ≡ put true rep (entry_width * p.told) (entry_bytes (lost t.first (g.base + len - 1) t.number)) → RanOutAs t to len g p rep rep' r

abbrev pub SkipEnds : Stand → Given → ℕ → Place → List ℕ → List ℕ → Turn → Resumed → Type 0
SkipEnds t g len p rep rep' r (Here to) = ResumesAs t to g.base p rep rep' r
SkipEnds t g len p rep rep' r (Waits to) = RanOutAs t to len g p rep rep' r
SkipEnds t g len p rep rep' r Nowhere = RanOutAs t len len g p rep rep' r

pub record SkippedAs (t : Stand) (g : Given) (part start end : List ℕ) (p : Place) (rep rep' : List ℕ) (r : Turn) : Type 0 where
  pub found : Resumed
  pub is : ResumedIs start end part p.at found
  pub ends : SkipEnds t g (length part) p rep rep' r found

-- no whole token comes next
pub data NoTokenAs (t : Stand) (n base len : ℕ) (p : Place) (rep rep' : List ℕ) (r : Turn) : Type 0 where
  stands : t.mode ≡ 0 → r ≡ stopping t n p.at p.put p.told t.waits → rep' ≡ rep → NoTokenAs t n base len p rep rep' r
  breaks : (t.mode ≡ 0 → ⊥) → BrokenAs t t.before t.first n base len p rep rep' r → NoTokenAs t n base len p rep rep' r

-- a step
pub data TurnedAs (s : List ℕ) (g : Given) (part start end : List ℕ) (p : Place) (t : Stand) (b b' out out' area area' rep rep' : List ℕ) (r : Turn) : Type 0 where
  skips : t.mode ≡ 2 → SkippedAs t g part start end p rep rep' r → b' ≡ b → out' ≡ out → area' ≡ area → TurnedAs s g part start end p t b b' out out' area area' rep rep' r
  no_token : (t.mode ≡ 2 → ⊥) → (x : Answer) (n : ℕ) → ((e : Event) (next : Cursor) → x ≡ Read e next → ⊥) → ReadAs (not g.ended) part p.at x →
      (Shaped (full t.live b) → NumberedAs (not g.ended) (length part - p.at) (meaning_of (full t.live b)).control x n) → NoTokenAs t n g.base (length part) p rep rep' r →
      b' ≡ b → out' ≡ out → area' ≡ area → TurnedAs s g part start end p t b b' out out' area area' rep rep' r
  in_record : t.mode ≡ 1 → (e : Event) (next : ℕ) → ReadAs (not g.ended) part p.at (Read e (record { at = next })) →
      RecordTokenAs s g.base t.before t.first part e next p t b b' out out' area area' rep rep' r → TurnedAs s g part start end p t b b' out out' area area' rep rep' r
  begins : (t.mode ≡ 2 → ⊥) → (t.mode ≡ 1 → ⊥) → (e : Event) (next : ℕ) → ReadAs (not g.ended) part p.at (Read e (record { at = next })) → BeginsAs s part e g.tag t.live.depth true →
      RecordTokenAs s g.base t.live (g.base + p.at) part e next p t b b' out out' area area' rep rep' r → TurnedAs s g part start end p t b b' out out' area area' rep rep' r
  other : (t.mode ≡ 2 → ⊥) → (t.mode ≡ 1 → ⊥) → (e : Event) (next : ℕ) → ReadAs (not g.ended) part p.at (Read e (record { at = next })) → BeginsAs s part e g.tag t.live.depth false →
      OtherTokenAs s part e next p t b b' out out' r → area' ≡ area → rep' ≡ rep → TurnedAs s g part start end p t b b' out out' area area' rep rep' r
