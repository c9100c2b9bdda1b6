-- What one token with the limits on count and room answers and leaves. A refused token, and one for whose output there is no room, leaves the state and
-- the lent memory as they were.
-- Assumes nothing.
use Rattle.std.specs.Prelude.{◌≡◌, List, ◌++◌, ℕ, ◌+◌, ◌-◌, ◌≤◌, length, take, drop}
use Rattle.text.specs.Chars.{Char}
use Rattle.tokens.specs.declared.Event.{Event}
use Rattle.tokens.specs.declared.Event.TheVariants.{Start, End, Empty, Character}
use Rattle.sheet.specs.Sheet.{Sheet, IsSheet}
use Rattle.calls.specs.Limits.{Taking, taken, refuses, no_room, one_token}
use Rattle.calls.specs.Names.{token_of}
use Rattle.fit.specs.RunFits.{RunFits}
use Rattle.runs.specs.Machine.{Configuration as Standing}
use Rattle.runs.specs.Visits.{most_visits}
use Rattle.state.specs.Meaning.{meaning_of, Shaped}
use Rattle.state.specs.declared.State.{State}
use Rattle.steps.specs.Seen.{SteppedSeen}

-- an event as a reader answers it of the part: a name lies inside, a character is of the Char set
abbrev pub EventIn : List ℕ → Event → Type 0
EventIn part (Start from len) = from + len ≤ length part
EventIn part (End from len) = from + len ≤ length part
EventIn part (Empty from len) = from + len ≤ length part
EventIn part (Character c literal) = Char c

-- the token was taken: the state stands for m, and w was written from `at` on
pub record Taken (m : Standing) (w : List ℕ) (z : State) (lent : List ℕ) (at : ℕ) (r : SteppedSeen) (d : List ℕ) : Type 0 where
  pub number : r.number ≡ 0
  pub means : meaning_of r.state ≡ m
  pub shaped : Shaped r.state
  pub closed : r.state.closed ≡ z.closed
  pub next : r.at ≡ at + length w
  pub left : d ≡ take at lent ++ (w ++ drop (at + length w) lent)

-- the number n, and all is as it was
pub record Left (n : ℕ) (z : State) (lent : List ℕ) (at : ℕ) (r : SteppedSeen) (d : List ℕ) : Type 0 where
  pub number : r.number ≡ n
  pub state : r.state ≡ z
  pub next : r.at ≡ at
  pub left : d ≡ lent

abbrev pub TakingIs : Taking → State → List ℕ → ℕ → SteppedSeen → List ℕ → Type 0
TakingIs (taken m w) z lent at r d = Taken m w z lent at r d
TakingIs (refuses n) z lent at r d = Left n z lent at r d
TakingIs no_room z lent at r d = Left 17 z lent at r d

pub record TakenAs (s part : List ℕ) (e : Event) (z : State) (lent : List ℕ) (at : ℕ) (r : SteppedSeen) (d : List ℕ) : Type 0 where
  pub inside : r.at ≤ length lent
  pub count : r.state.count ≤ most_visits
  pub right : (a : Sheet) → IsSheet s a → Shaped z → RunFits a (meaning_of z) → TakingIs (one_token a (meaning_of z) (length lent - at) (token_of a part e)) z lent at r d

-- what two answers to one token have in common
pub record SameStep (r r' : SteppedSeen) (d d' : List ℕ) : Type 0 where
  pub number : r.number ≡ r'.number
  pub next : r.at ≡ r'.at
  pub memory : d ≡ d'
  pub means : meaning_of r.state ≡ meaning_of r'.state
