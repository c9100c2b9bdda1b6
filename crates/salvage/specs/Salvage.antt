-- The salvage run over a whole stream: a record that is refused with 20 to 25 is dropped, the whole state returns to what it was before it, and reading resumes behind it. A refusal
-- outside a record stands as in document 01, whose tokens, stops and limits these are.
-- Assumes nothing.
use Rattle.std.specs.Prelude.{◌≡◌, Bool, true, false, ◌&&◌, List, [], ◌∷◌, ◌++◌, ℕ, suc, ◌-◌, ◌≤◌, ◌<◌, leb, ltb, length}
use Rattle.expressions.specs.Grammar.{only_if}
use Rattle.tokens.specs.declared.Event.{Event}
use Rattle.tokens.specs.declared.Answer.TheVariants.{Token as Read}
use Rattle.tokens.specs.Stream.{ReadAs}
use Rattle.sheet.specs.Sheet.{Sheet}
use Rattle.runs.specs.Machine.{Control, before, inside, after, same_tag, Configuration, fresh_configuration}
use Rattle.runs.specs.Spells.{Token, start_token, end_token, empty_token, literal, reference}
use Rattle.calls.specs.Names.{token_of}
use Rattle.calls.specs.Limits.{taken, one_token}
use Rattle.calls.specs.Call.{Result, stopped_at, after_writing, room_left, Stop}
use Rattle.salvage.specs.Shape.{RecordTags}
use Rattle.salvage.specs.Resumption.{ResumesAt, NeverResumes}

-- only the root is open
abbrev pub root_only : Control → Bool
root_only before = false
root_only (inside o []) = true
root_only (inside o (o' ∷ os)) = false
root_only after = false

-- the tag R, started or empty, however it is written
abbrev pub starts_with : ℕ → Token → Bool
starts_with t (start_token u) = same_tag u t
starts_with t (end_token u) = false
starts_with t (empty_token u) = same_tag u t
starts_with t (literal c) = false
starts_with t (reference c) = false

-- a record begins with such a token where only the root is open
abbrev pub begins_record : RecordTags → Control → Token → Bool
begins_record x c k = root_only c && starts_with x.record_tag k

-- one does at `at`
pub record RecordAt (a : Sheet) (x : RecordTags) (s : List ℕ) (at : ℕ) (z : Configuration) : Type 0 where
  pub event : Event
  pub next : ℕ
  pub reads : ReadAs false s at (Read event (record { at = next }))
  pub begins : begins_record x z.control (token_of a s event) ≡ true

-- none does
abbrev pub NoRecordAt : Sheet → RecordTags → List ℕ → ℕ → Configuration → Type 0
NoRecordAt a x s at z = (e : Event) (next : ℕ) → ReadAs false s at (Read e (record { at = next })) → begins_record x z.control (token_of a s e) ≡ false

-- how a record ends: with a token at `at`, where the run was in y. It is whole with that token, which ends at `next`, the run is in z behind it, and w is the record's output; or it
-- stops there with the number n
pub data RecordEnd : Type 0 where
  whole : (at : ℕ) (y : Configuration) (next : ℕ) (z : Configuration) (w : List ℕ) → RecordEnd
  broken : (n at : ℕ) (y : Configuration) → RecordEnd

-- a record, from `at` on, where v waits in an area of so many bytes: tokens are taken until only the root is open again, or the run stops
pub data InRecord (a : Sheet) (s : List ℕ) (area : ℕ) : ℕ → Configuration → List ℕ → RecordEnd → Type 0 where
  goes_on : {at : ℕ} {y : Configuration} {v : List ℕ} {o : RecordEnd} (e : Event) (next : ℕ) (y' : Configuration) (w : List ℕ) →
      ReadAs false s at (Read e (record { at = next })) → one_token a y (room_left area v) (token_of a s e) ≡ taken y' w → root_only y'.control ≡ false →
      InRecord a s area next y' (v ++ w) o → InRecord a s area at y v o
  ends : {at : ℕ} {y : Configuration} {v : List ℕ} (e : Event) (next : ℕ) (z : Configuration) (w : List ℕ) →
      ReadAs false s at (Read e (record { at = next })) → one_token a y (room_left area v) (token_of a s e) ≡ taken z w → root_only z.control ≡ true →
      InRecord a s area at y v (whole at y next z (v ++ w))
  breaks : {at : ℕ} {y : Configuration} {v : List ℕ} (n : ℕ) → Stop a s false at (room_left area v) y n → InRecord a s area at y v (broken n at y)

-- a dropped stretch, by its first and last byte in the stream and the number that the record was refused with
pub record LostStretch : Type 0 where
  pub first : ℕ
  pub last : ℕ
  pub number : ℕ

abbrev pub lost : (first last number : ℕ) → LostStretch
lost f l n = record { first = f; last = l; number = n }

-- what a salvage run answers, and its report
pub record Salvage : Type 0 where
  pub answer : Result
  pub report : List LostStretch

abbrev pub without_report : Result → Salvage
without_report r = record { answer = r; report = [] }

abbrev pub behind_output : List ℕ → Salvage → Salvage
behind_output w r = record { answer = after_writing w r.answer; report = r.report }

abbrev pub reporting : LostStretch → Salvage → Salvage
reporting d r = record { answer = r.answer; report = d ∷ r.report }

-- the whole state returns to what it was before the record: open elements, places and sets, attributes, echo and count
abbrev pub state_before : (was now : Configuration) → Configuration
state_before was now = was

-- nowhere to resume: the stream ends in 27
abbrev pub ends_lost : List ℕ → (first last number : ℕ) → Configuration → Salvage
ends_lost s f l n z = reporting (lost f l n) (without_report (stopped_at 27 (length s) z))

-- 30 inside a record that begins at f, by the token at `to`: what is dropped ends before that token
abbrev pub over_stretch : (f to : ℕ) → LostStretch
over_stretch f to = lost f (to - 1) 30

abbrev pub over_inside : (f to : ℕ) → Configuration → Salvage
over_inside f to z = record { answer = stopped_at 30 to z; report = only_if (ltb f to) (over_stretch f to) }

-- the numbers that drop a record and no more
abbrev pub damaged : ℕ → Bool
damaged n = leb 20 n && leb n 25

-- the salvage run between records: from `at` on, with so much room left
pub data Salvages (a : Sheet) (x : RecordTags) (s : List ℕ) (area : ℕ) : ℕ → ℕ → Configuration → Salvage → Type 0 where
  -- outside a record a token is taken, or the run stops, as in 01
  passes : {at room : ℕ} {z : Configuration} {r : Salvage} (e : Event) (next : ℕ) (z' : Configuration) (w : List ℕ) →
      ReadAs false s at (Read e (record { at = next })) → begins_record x z.control (token_of a s e) ≡ false → one_token a z room (token_of a s e) ≡ taken z' w →
      Salvages a x s area next (room_left room w) z' r → Salvages a x s area at room z (behind_output w r)
  stands : {at room : ℕ} {z : Configuration} (n : ℕ) → NoRecordAt a x s at z → Stop a s false at room z n → Salvages a x s area at room z (without_report (stopped_at n at z))
  -- a whole record: its output is written with its last token; 17 where it has no room
  keeps : {at room : ℕ} {z : Configuration} {r : Salvage} (to next : ℕ) (y z' : Configuration) (w : List ℕ) → RecordAt a x s at z →
      InRecord a s area at z [] (whole to y next z' w) → length w ≤ room → Salvages a x s area next (room_left room w) z' r → Salvages a x s area at room z (behind_output w r)
  full : {at room : ℕ} {z : Configuration} (to next : ℕ) (y z' : Configuration) (w : List ℕ) → RecordAt a x s at z →
      InRecord a s area at z [] (whole to y next z' w) → room < length w → Salvages a x s area at room z (without_report (stopped_at 17 to y))
  -- no room in the area where it waits
  waits : {at room : ℕ} {z : Configuration} (to : ℕ) (y : Configuration) → RecordAt a x s at z → InRecord a s area at z [] (broken 17 to y) →
      Salvages a x s area at room z (without_report (stopped_at 17 to y))
  -- a damaged record: the run goes on behind it as it was before it
  drops : {at room : ℕ} {z : Configuration} {r : Salvage} (n to last : ℕ) (y : Configuration) → RecordAt a x s at z → InRecord a s area at z [] (broken n to y) → damaged n ≡ true →
      ResumesAt a x s at to (suc last) → Salvages a x s area (suc last) room (state_before z y) r → Salvages a x s area at room z (reporting (lost at last n) r)
  -- or there is nowhere to resume, and the stream ends in 27
  loses : {at room : ℕ} {z : Configuration} (n to last : ℕ) (y : Configuration) → RecordAt a x s at z → InRecord a s area at z [] (broken n to y) → damaged n ≡ true →
      NeverResumes a x s at to → suc last ≡ length s → Salvages a x s area at room z (ends_lost s at last n (state_before z y))
  -- 27 and 30 inside a record drop its output too, and the run is again as it was before it
  cut_off : {at room : ℕ} {z : Configuration} (to last : ℕ) (y : Configuration) → RecordAt a x s at z → InRecord a s area at z [] (broken 27 to y) → suc last ≡ length s →
      Salvages a x s area at room z (reporting (lost at last 27) (without_report (stopped_at 27 to (state_before z y))))
  over : {at room : ℕ} {z : Configuration} (to : ℕ) (y : Configuration) → RecordAt a x s at z → InRecord a s area at z [] (broken 30 to y) →
      Salvages a x s area at room z (over_inside at to (state_before z y))

-- r is what a salvage run from a fresh state answers, with so much room for the output and an area of so many bytes for what waits
abbrev pub Salvaged : Sheet → RecordTags → List ℕ → (area room : ℕ) → Salvage → Type 0
Salvaged a x s area room r = Salvages a x s area 0 room fresh_configuration r
