-- One step of a call of the salvage run: a token that is taken or refused, the end of the part, or the bytes passed over behind a refused record; and 17 where it has no room.
-- Assumes nothing.
use Rattle.std.specs.Prelude.{◌≡◌, Bool, true, cond, List, [], ◌∷◌, ◌++◌, ℕ, suc, ◌+◌, ◌-◌, eqb, leb, ltb, length, drop}
use Rattle.std.proofs.Math.Option.{some}
use Rattle.expressions.specs.Grammar.{only_if}
use Rattle.tokens.specs.declared.Event.{Event}
use Rattle.tokens.specs.declared.Answer.{Answer}
use Rattle.tokens.specs.declared.Answer.TheVariants.{Token as Read}
use Rattle.tokens.specs.Stream.{ReadAs}
use Rattle.sheet.specs.Sheet.{Sheet}
use Rattle.runs.specs.Machine.{Configuration}
use Rattle.runs.specs.Spells.{Token}
use Rattle.calls.specs.Names.{token_of}
use Rattle.calls.specs.Limits.{Taking, taken, refuses, no_room, one_token}
use Rattle.calls.specs.Held.{leaves_open}
use Rattle.calls.specs.Call.{room_left, number_at}
use Rattle.salvage.specs.Shape.{RecordTags}
use Rattle.salvage.specs.Resumption.{record_start, root_end}
use Rattle.salvage.specs.Salvage.{root_only, begins_record, LostStretch, lost, damaged}
use Rattle.salvaging.specs.declared.Resumed.{Resumed}
use Rattle.salvaging.specs.declared.Resumed.TheVariants.{Here, Waits, Nowhere}
use Rattle.salvaging.specs.Resumed.{ResumedIs}
use Rattle.rescue.specs.Held.{Mode, between, inside, skipping, control_of, reads_tokens, waiting_in}

-- what a call is given: the sheet and its two tags, a part of the stream, whether more is to come, the bytes of the stream that were taken before it, and how many bytes may wait
pub record Setting : Type 0 where
  pub sheet : Sheet
  pub tags : RecordTags
  pub part : List ℕ
  pub more : Bool
  pub before : ℕ
  pub area : ℕ

-- what a step comes to: the run goes on at `next` in the mode m, w is written and ds are reported; or the call stops with n at `to`, is left in the mode m, and ds are reported. k bytes
-- waited meanwhile: those that did before the step, and a record's token is put behind them, its last one too, before it is known whether the output has room for all
pub data Step : Type 0 where
  on : (next : ℕ) (m : Mode) (w : List ℕ) (ds : List LostStretch) (k : ℕ) → Step
  stop : (n to : ℕ) (m : Mode) (ds : List LostStretch) (k : ℕ) → Step

-- the call stops and leaves all as it is
abbrev pub stay : (n at : ℕ) → Mode → Step
stay n at m = stop n at m [] (length (waiting_in m))

-- the place `at` of the part, as a byte of the stream; the byte before it; and the part's last byte
abbrev pub in_stream : Setting → ℕ → ℕ
in_stream c at = c.before + at

abbrev pub byte_before : Setting → ℕ → ℕ
byte_before c at = in_stream c at - 1

abbrev pub last_byte : Setting → ℕ
last_byte c = byte_before c (length c.part)

-- reading may resume at the refused token, but past the record's own first byte
abbrev pub past_first : Setting → (f at : ℕ) → ℕ
past_first c f at = cond (ltb f (in_stream c at)) at (suc at)

-- 20 to 25 drop a record: the run is again as it was before it, and bytes are passed over
abbrev pub drops_at : Setting → (at : ℕ) (m : Mode) (z : Configuration) (f n : ℕ) → Step
drops_at c at m z f n = on (past_first c f at) (skipping z f n) [] [] (length (waiting_in m))

-- so do 27 and 30, which close. With 27 what is dropped ends with the stream; with 30 before the refused token, and nothing is where that is the record's first
abbrev pub closes_at : Setting → (at : ℕ) (m : Mode) (z : Configuration) (f n : ℕ) → Step
closes_at c at m z f n =
    stop n at (between z) (cond (eqb n 27) (lost f (last_byte c) n ∷ []) (only_if (ltb f (in_stream c at)) (lost f (byte_before c at) n))) (length (waiting_in m))

-- the record that began at f, where the run was in z, stops with n at the place `at`; 16 and 17 leave all as it is, in the mode m
abbrev pub breaks_at : Setting → (at : ℕ) (m : Mode) (z : Configuration) (f n : ℕ) → Step
breaks_at c at m z f n = cond (leaves_open n) (stay n at m) (cond (damaged n) (drops_at c at m z f n) (closes_at c at m z f n))

-- with its last token the record is whole, and all that waited is written; 17 where it has no room
abbrev pub whole_at : (at room : ℕ) (m : Mode) (next : ℕ) (y : Configuration) (w : List ℕ) → Step
whole_at at room m next y w = cond (leb (length w) room) (on next (between y) w [] (length w)) (stop 17 at m [] (length w))

-- a token of the record, behind which v waits
abbrev pub record_token : Setting → (at room : ℕ) (m : Mode) (z : Configuration) (f : ℕ) (v : List ℕ) (next : ℕ) → Taking → Step
record_token c at room m z f v next (taken y w) = cond (root_only y.control) (whole_at at room m next y (v ++ w)) (on next (inside z y f (v ++ w)) [] [] (length (v ++ w)))
record_token c at room m z f v next (refuses n) = breaks_at c at m z f n
record_token c at room m z f v next no_room = stay 17 at m

-- a token outside a record
abbrev pub other_token : (at : ℕ) (m : Mode) (next : ℕ) → Taking → Step
other_token at m next (taken y w) = on next (between y) w [] 0
other_token at m next (refuses n) = stay n at m
other_token at m next no_room = stay 17 at m

-- the token k, which ends at `next`. A record waits from its first token on. Where bytes are passed over no token is read (`reads_tokens`), so what is said of that mode is never asked, here
-- and in `number_step`
abbrev pub token_step : Setting → (at room : ℕ) (next : ℕ) → Token → Mode → Step
token_step c at room next k (between z) =
    cond (begins_record c.tags z.control k) (record_token c at room (between z) z (in_stream c at) [] next (one_token c.sheet z (room_left c.area []) k))
    (other_token at (between z) next (one_token c.sheet z room k))
token_step c at room next k (inside z y f v) = record_token c at room (inside z y f v) z f v next (one_token c.sheet y (room_left c.area v) k)
token_step c at room next k (skipping z f n) = stay 17 at (skipping z f n)

-- no whole token comes next, and that has the number n
abbrev pub number_step : Setting → (at n : ℕ) → Mode → Step
number_step c at n (between z) = stay n at (between z)
number_step c at n (inside z y f v) = breaks_at c at (inside z y f v) z f n
number_step c at n (skipping z f k) = stay 17 at (skipping z f k)

-- passing over: up to where reading resumes. While more is to come, the bytes that begin one of the two byte strings are left for the next call; else the stream ends in 27
abbrev pub ran_out : Setting → (to : ℕ) (z : Configuration) (f n : ℕ) → Step
ran_out c to z f n = cond c.more (stay 16 to (skipping z f n)) (stop 27 (length c.part) (between z) (lost f (last_byte c) n ∷ []) 0)

abbrev pub skip_step : Setting → (z : Configuration) (f n : ℕ) → Resumed → Step
skip_step c z f n (Here to) = on to (between z) [] (lost f (byte_before c to) n ∷ []) 0
skip_step c z f n (Waits to) = ran_out c to z f n
skip_step c z f n Nowhere = ran_out c (length c.part) z f n

-- up to where it passes over
abbrev pub skip_to : Setting → Resumed → ℕ
skip_to c (Here to) = to
skip_to c (Waits to) = length c.part
skip_to c Nowhere = length c.part

-- a stretch that is complete needs an entry of the report; where no entry is left it is 17, and nothing else happens: the call stops at the token, or where it has passed over to
abbrev pub reported : (spare at : ℕ) (m : Mode) → Step → Step
reported spare at m (on next m' w ds k) = cond (leb (length ds) spare) (on next m' w ds k) (stay 17 at m)
reported spare at m (stop n to m' ds k) = cond (leb (length ds) spare) (stop n to m' ds k) (stay 17 at m)

-- the step at the place `at`, in the mode m, with so much room and so many entries left
pub data StepIs (c : Setting) (at room spare : ℕ) (m : Mode) : Step → Type 0 where
  at_token : (e : Event) (next : ℕ) → reads_tokens m ≡ true → ReadAs c.more c.part at (Read e (record { at = next })) →
      StepIs c at room spare m (reported spare at m (token_step c at room next (token_of c.sheet c.part e) m))
  at_none : (x : Answer) (n : ℕ) → reads_tokens m ≡ true → ReadAs c.more c.part at x → number_at c.more (length (drop at c.part)) (control_of m) x ≡ some n →
      StepIs c at room spare m (reported spare at m (number_step c at n m))
  at_bytes : (z : Configuration) (f n : ℕ) (r : Resumed) → m ≡ skipping z f n → ResumedIs (record_start c.sheet c.tags) (root_end c.sheet c.tags) c.part at r →
      StepIs c at room spare m (reported spare (skip_to c r) m (skip_step c z f n r))
