-- A stream that comes in parts, or with room a little at a time: calls each with what the one before has left, against one call.
-- Assumes nothing.
use Rattle.std.specs.Prelude.{◌≡◌, ◌⊎◌, Bool, true, List, [], ◌++◌, ℕ, ◌+◌, ◌-◌, length, drop}
use Rattle.std.proofs.Math.Option.{Option, none, some}
use Rattle.text.specs.Chars.{Starts}
use Rattle.tokens.specs.Parts.{CutNumber}
use Rattle.sheet.specs.Sheet.{Sheet}
use Rattle.calls.specs.Held.{Held, handed}
use Rattle.calls.specs.Call.{Result, Called}
use Rattle.runs.specs.Visits.{Env}
use Rattle.calls.specs.Accepted.{accepted}

-- what two calls answer together
abbrev pub answers_together : Result → Result → Result
answers_together r₁ r₂ = record { number = r₂.number; taken = r₁.taken + r₂.taken; output = r₁.output ++ r₂.output; held = r₂.held }

-- what is told of the end is so: where `later` comes after a part, more is to come; where nothing does, it is told as of the whole
abbrev pub EndTold : (more_then : Bool) (later : List ℕ) (more : Bool) → Type 0
EndTold b later more = (b ≡ true) ⊎ ((later ≡ []) × (b ≡ more))

-- r with another number of a refusal
abbrev pub refused_with : ℕ → Result → Result
refused_with n r = record { number = n; taken = r.taken; output = r.output; held = handed n r.held.run }

-- r is what calls on parts answer, r' what one call on the whole does. Where a part ends 30 or 31 bytes into a reference by number which can only come to
-- more than 32, that is 21; with the bytes behind it it may name nothing in Char, and the whole is 20. That is the one thing that a cut can change
pub record CutOff (whole : List ℕ) (r r' : Result) : Type 0 where
  pub number : r.number ≡ 21
  pub had : List ℕ
  pub cut : CutNumber had
  pub stands : Starts (drop r.taken whole) had
  pub is : r' ≡ refused_with 20 r

abbrev pub SameAnswer : List ℕ → Result → Result → Type 0
SameAnswer whole r r' = (r' ≡ r) ⊎ CutOff whole r r'

-- r₁ is a first call's answer, r that of one call on the whole: where the first closed the state, they are the same; where it left it open, a second
-- call on the bytes and in the room that the first has left goes on, and the two together are the one
abbrev pub Continued : Sheet → List ℕ → Bool → ℕ → Result → Result → Option ℕ → Type 0
Continued a whole more room r₁ r none =
    (r₂ : Result) × Called a (drop r₁.taken whole) more (room - length r₁.output) r₁.held r₂ × (r ≡ answers_together r₁ r₂)
Continued a whole more room r₁ r (some n) = SameAnswer whole r₁ r

-- calls one after another over a stream. Call says what one of them answers: of a part, whether more is to come, the room lent and what is handed in, what is
-- handed back, its result, and the visits that it tells. whole is what is left of the stream and room what is left of all that is lent: each call gets some of
-- both, and presents again what the one before has left; together they answer r, and the last tells the visits v
-- The last call closes the state, or gets all that is left of the stream and of the room. So calls that end with a closing number may each be lent as much as one likes; of calls
-- that end with 16 or 17 the last is lent all that is left of the room, and none before it was lent more than that and what was written since
pub data Feeds {H : Type 0} (Call : List ℕ → Bool → ℕ → H → H → Result → ℕ → Type 0) (more : Bool) : List ℕ → ℕ → H → Result → ℕ → Type 0 where
  at_once : {whole : List ℕ} {room : ℕ} {h h' : H} {r : Result} {v : ℕ} → Call whole more room h h' r v → Feeds Call more whole room h r v
  closes : {h h' : H} {v : ℕ} (room extra : ℕ) (s later : List ℕ) (b : Bool) (r₁ : Result) (n : ℕ) → EndTold b later more → Call s b room h h' r₁ v →
      r₁.held.closing ≡ some n → Feeds Call more (s ++ later) (room + extra) h r₁ v
  goes_on : {h h' : H} {r₂ : Result} {u v : ℕ} (room extra : ℕ) (s later : List ℕ) (b : Bool) (r₁ : Result) → EndTold b later more → Call s b room h h' r₁ u →
      r₁.held.closing ≡ none → Feeds Call more (drop r₁.taken (s ++ later)) (room + extra - length r₁.output) h' r₂ v →
      Feeds Call more (s ++ later) (room + extra) h (answers_together r₁ r₂) v

-- P holds of each of the calls
abbrev pub EachCall : {H : Type 0} {Call : List ℕ → Bool → ℕ → H → H → Result → ℕ → Type 0} →
    (P : (part : List ℕ) (b : Bool) (room : ℕ) (h h' : H) (r : Result) (v : ℕ) → Call part b room h h' r v → Type 0) →
    {more : Bool} {whole : List ℕ} {room : ℕ} {h : H} {r : Result} {v : ℕ} → Feeds Call more whole room h r v → Type 0
EachCall P (at_once c) = P _ _ _ _ _ _ _ c
EachCall P (closes room extra s later b r₁ n t c e) = P s b room _ _ r₁ _ c
EachCall P (goes_on room extra s later b r₁ t c e d) = P s b room _ _ r₁ _ c × EachCall P d

-- a call of the definition, by what is held
pub record CallOf (a : Sheet) (part : List ℕ) (more : Bool) (room : ℕ) (h h' : Held) (r : Result) (v : ℕ) : Type 0 where
  pub called : Called a part more room h r
  pub handed_back : r.held ≡ h'
  pub visits : v ≡ r.held.run.store.env.count

-- what a stream comes to that is accepted, in whatever parts and rooms: the answer of one call, with the visits of its tree
pub record FedAccepted (whole : List ℕ) (e : Env) (r : Result) (v : ℕ) : Type 0 where
  pub answer : r ≡ accepted whole e
  pub visits : v ≡ e.count
