-- One call on a part of the stream: its number, the bytes taken, the bytes written, and what is handed back.
-- Assumes nothing.
use Rattle.std.specs.Prelude.{◌≡◌, Bool, List, [], ◌++◌, ℕ, zero, suc, ◌-◌, length, drop}
use Rattle.std.proofs.Math.Option.{Option, none, some}
use Rattle.tokens.specs.declared.Event.{Event}
use Rattle.tokens.specs.declared.Answer.{Answer}
use Rattle.tokens.specs.declared.Answer.TheVariants.{Token, Waiting, Begun, Bad, Long}
use Rattle.tokens.specs.Stream.{ReadAs}
use Rattle.tokens.specs.Numbers.{number_of}
use Rattle.sheet.specs.Sheet.{Sheet}
use Rattle.runs.specs.Options.{or_else}
use Rattle.runs.specs.Machine.{Control, before, inside, after, Configuration}
use Rattle.calls.specs.Names.{token_of}
use Rattle.calls.specs.Held.{Held, handed}
use Rattle.calls.specs.Limits.{taken, refuses, no_room, one_token}

pub record Result : Type 0 where
  pub number : ℕ
  pub taken : ℕ
  pub output : List ℕ
  pub held : Held

-- the call stops at `at` with the number n: the bytes before it are taken, and no more is written
abbrev pub stopped_at : ℕ → ℕ → Configuration → Result
stopped_at n at z = record { number = n; taken = at; output = []; held = handed n z }

-- the same after w was written
abbrev pub after_writing : List ℕ → Result → Result
after_writing w r = record { number = r.number; taken = r.taken; output = w ++ r.output; held = r.held }

-- the room left after w was written
abbrev pub room_left : ℕ → List ℕ → ℕ
room_left room w = room - length w

-- nothing is left of a stream that is declared ended
abbrev pub at_end : Control → ℕ
at_end before = 27
at_end (inside o os) = 27
at_end after = 0

-- the number where no whole token is read next, by whether more is to come and how many bytes are left. What is read never waits: that is settled
abbrev pub number_at : Bool → ℕ → Control → Answer → Option ℕ
number_at more left c (Token e next) = none
number_at more left c (Waiting e next) = none
number_at more left c Begun = or_else (number_of more left Begun) (some (at_end c))
number_at more left c Bad = number_of more left Bad
number_at more left c Long = number_of more left Long

-- why a call stops at the place `at`, with so much room left, in the state z, and with which number: the token there is refused, or there is no room for its
-- output, or no whole token comes next
pub data Stop (a : Sheet) (part : List ℕ) (more : Bool) (at room : ℕ) (z : Configuration) : ℕ → Type 0 where
  stops : (e : Event) (next n : ℕ) →
      ReadAs more part at (Token e (record { at = next })) → one_token a z room (token_of a part e) ≡ refuses n → Stop a part more at room z n
  full : (e : Event) (next : ℕ) →
      ReadAs more part at (Token e (record { at = next })) → one_token a z room (token_of a part e) ≡ no_room → Stop a part more at room z 17
  no_token : (x : Answer) (n : ℕ) →
      ReadAs more part at x → number_at more (length (drop at part)) z.control x ≡ some n → Stop a part more at room z n

-- the call from there on: it takes token after token, and then stops. A token that is refused, or that there is no room for, leaves the state as it was
-- before it, and nothing of its output
pub data Runs (a : Sheet) (part : List ℕ) (more : Bool) : ℕ → ℕ → Configuration → Result → Type 0 where
  takes : {at room : ℕ} {z : Configuration} {r : Result} (e : Event) (next : ℕ) (z' : Configuration) (w : List ℕ) →
      ReadAs more part at (Token e (record { at = next })) → one_token a z room (token_of a part e) ≡ taken z' w → Runs a part more next (room_left room w) z' r →
      Runs a part more at room z (after_writing w r)
  halts : {at room : ℕ} {z : Configuration} {n : ℕ} → Stop a part more at room z n → Runs a part more at room z (stopped_at n at z)

-- a closed state: 28 after 0, and any other number again; nothing is taken or written, and the state is handed back as given
abbrev pub again : ℕ → ℕ
again zero = 28
again (suc n) = suc n

abbrev pub CalledBy : Sheet → List ℕ → Bool → ℕ → Configuration → Option ℕ → Result → Type 0
CalledBy a part more room z none r = Runs a part more 0 room z r
CalledBy a part more room z (some n) r = r ≡ record { number = again n; taken = 0; output = []; held = record { run = z; closing = some n } }

-- r is what a call answers: with the sheet a, a part of the stream, whether more is to come, the room lent, and what is handed in
abbrev pub Called : Sheet → List ℕ → Bool → ℕ → Held → Result → Type 0
Called a part more room h r = CalledBy a part more room h.run h.closing r
