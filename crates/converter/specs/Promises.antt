-- What is promised of calls of the code: every number is one of the table's; and under a sheet a, the bytes s, that passes, demand 2, in one call and in whatever
-- parts and rooms, from the fresh state by value and as bytes.
-- Assumes nothing.
use Rattle.std.specs.Prelude.{◌≡◌, Bool, true, false, not, List, ◌++◌, ◌↔◌, ◌⊎◌, ℕ, ◌≤◌, length, drop}
use Rattle.std.proofs.Math.Option.{some}
use Rattle.sheet.specs.Sheet.{Sheet}
use Rattle.output.specs.Escape.{render}
use Rattle.runs.specs.Visits.{Env}
use Rattle.calls.specs.Call.{Result, again}
use Rattle.calls.specs.Accepted.{Accepted}
use Rattle.calls.specs.Parts.{Feeds, EachCall, SameAnswer, FedAccepted}
use Rattle.state.specs.Changes.{fresh_state}
use Rattle.state.specs.Bytes.{bytes_of}
use Rattle.state.specs.declared.State.{State}
use Rattle.converter.specs.declared.Reply.{Reply}
use Rattle.converter.specs.declared.Counts.{Counts}
use Rattle.converter.specs.Answered.{FitsSheet, held_of, AsGiven, AnsweredAs}
use Rattle.converter.specs.Bytes.{BytesAnsweredAs}
use Rattle.converter.specs.Fed.{result_of, ValueCall, BytesCall, ValueAsLent, BytesAsLent}

-- the numbers of the table that a call answers; 10 is none of them
abbrev pub InTable : ℕ → Type 0
InTable n = (n ≤ 9) ⊎ ((n ≡ 16) ⊎ ((n ≡ 17) ⊎ ((20 ≤ n) × (n ≤ 30))))

abbrev pub NumbersInTable : Type 0
NumbersInTable =
    (s : List ℕ) (z : State) (part : List ℕ) (ended : Bool) (lent after : List ℕ) (r : Reply) → AnsweredAs s z part ended lent after r → InTable r.number

abbrev pub BytesNumbersInTable : Type 0
BytesNumbersInTable =
    (s b b' part : List ℕ) (ended : Bool) (lent after : List ℕ) (r : Counts) → BytesAnsweredAs s b b' part ended lent after r → InTable r.number

-- the number is 0 exactly when the stream is accepted and its output has the room
abbrev pub ZeroExactly : Sheet → List ℕ → ℕ → ℕ → Type 0
ZeroExactly a whole room number = (number ≡ 0) ↔ ((v : Env) × (Accepted a whole v × (length (render v.out) ≤ room)))

-- what a call comes to that has taken the whole stream
pub record Converted (part lent after : List ℕ) (r : Reply) (v : Env) : Type 0 where
  pub taken : r.taken ≡ length part
  pub written : r.written ≡ length (render v.out)
  pub left : after ≡ render v.out ++ drop (length (render v.out)) lent
  pub visits : r.visits ≡ v.count

-- one call on the whole stream, which is declared ended
abbrev pub CallAccepts : List ℕ → Sheet → Type 0
CallAccepts s a = (part lent after : List ℕ) (r : Reply) → AnsweredAs s fresh_state part true lent after r → ZeroExactly a part (length lent) r.number

abbrev pub CallConverts : List ℕ → Sheet → Type 0
CallConverts s a =
    (part lent after : List ℕ) (r : Reply) → AnsweredAs s fresh_state part true lent after r → (v : Env) → Accepted a part v → length (render v.out) ≤ length lent →
    Converted part lent after r v

-- calls in a chain; and of each of them, that every byte of the memory lent to it past its output is as lent
abbrev pub FedAccepts : List ℕ → Sheet → Type 0
FedAccepts s a = (whole : List ℕ) (room : ℕ) (x : Result) (v : ℕ) → Feeds (ValueCall s) false whole room fresh_state x v → ZeroExactly a whole room x.number

abbrev pub FedConverts : List ℕ → Sheet → Type 0
FedConverts s a =
    (whole : List ℕ) (room : ℕ) (x : Result) (v : ℕ) (d : Feeds (ValueCall s) false whole room fresh_state x v) → (e : Env) → Accepted a whole e →
    length (render e.out) ≤ room → FedAccepted whole e x v × EachCall (ValueAsLent s) d

abbrev pub BytesFedAccepts : List ℕ → Sheet → Type 0
BytesFedAccepts s a =
    (whole : List ℕ) (room : ℕ) (x : Result) (v : ℕ) → Feeds (BytesCall s) false whole room (bytes_of fresh_state) x v → ZeroExactly a whole room x.number

abbrev pub BytesFedConverts : List ℕ → Sheet → Type 0
BytesFedConverts s a =
    (whole : List ℕ) (room : ℕ) (x : Result) (v : ℕ) (d : Feeds (BytesCall s) false whole room (bytes_of fresh_state) x v) → (e : Env) → Accepted a whole e →
    length (render e.out) ≤ room → FedAccepted whole e x v × EachCall (BytesAsLent s) d

-- from any state that fits, a stream in parts gives what one call gives, but for a reference by number that a part has cut off
abbrev pub PartsAsOne : List ℕ → Sheet → Type 0
PartsAsOne s a =
    (ended : Bool) (whole lent after : List ℕ) (z : State) (x : Result) (v : ℕ) (r : Reply) → FitsSheet a z → Feeds (ValueCall s) (not ended) whole (length lent) z x v →
    AnsweredAs s z whole ended lent after r → SameAnswer whole x (result_of after r) × (v ≡ r.visits)

-- a closed state repeats: 28 after 0, else the number again, and all is handed back as given
abbrev pub ClosedRepeats : List ℕ → Sheet → Type 0
ClosedRepeats s a =
    (z : State) (part : List ℕ) (ended : Bool) (lent after : List ℕ) (r : Reply) (n : ℕ) → FitsSheet a z → (held_of z).closing ≡ some n →
    AnsweredAs s z part ended lent after r → (r.number ≡ again n) × AsGiven z lent after r
