-- What is told of the run and of the part ahead of it: whether it is steady, and what taking a stretch answers and leaves.
-- Assumes nothing.
use Rattle.std.specs.Prelude.{Option as Taken, IfSome, ◌≡◌, Bool, false, List, ◌++◌, ℕ, ◌+◌, ◌-◌, ◌≤◌, ◌<◌, length, take, drop}
use Rattle.sheet.specs.Sheet.{Sheet, IsSheet}
use Rattle.runs.specs.Visits.{grammar, most_visits}
use Rattle.runs.specs.Spells.{passes_at}
use Rattle.calls.specs.Call.{Result, after_writing, Runs}
use Rattle.fit.specs.RunFits.{RunFits}
use Rattle.state.specs.declared.Frame.{Frame}
use Rattle.state.specs.declared.State.{State}
use Rattle.state.specs.Changes.{top_of}
use Rattle.state.specs.Meaning.{meaning_of, Shaped}
use Rattle.steady.specs.Steady.{counting, Steady}
use Rattle.stretches.specs.declared.Stretch.{Stretch}

-- the same, as far as sets are in use
pub record SameFrame (f g : Frame) : Type 0 where
  pub production : f.production ≡ g.production
  pub place : f.place ≡ g.place
  pub as_many : f.«open» ≡ g.«open»
  pub sets : take f.«open» f.saved ≡ take f.«open» g.saved

-- the same attributes, echo and innermost element
pub record SameState (z y : State) : Type 0 where
  pub values : z.values ≡ y.values
  pub echo : z.echo ≡ y.echo
  pub top : 0 < z.depth → 0 < y.depth → SameFrame (top_of z) (top_of y)

-- where white space is an event like any other, the run that z stands for is steady if r says so, by the visits of a character
pub record ProbedAs (s : List ℕ) (z : State) (r : Taken ℕ) : Type 0 where
  pub few : IfSome r (λ n. n ≤ most_visits)
  pub right : IfSome r (λ n. (a : Sheet) → IsSheet s a → Shaped z → RunFits a (meaning_of z) → passes_at (grammar a) (meaning_of z).control ≡ false → Steady a z.echo n (meaning_of z))

-- a stretch from the place `from` on: whatever the call answers from behind it, it answers from in front of it, after what was written
pub record OnwardAs (s part : List ℕ) (z : State) (lent : List ℕ) (from put : ℕ) (r : Stretch) (d : List ℕ) : Type 0 where
  pub forward : from ≤ r.at
  pub within : r.at ≤ length part
  pub room : r.put ≤ length lent
  pub long : length d ≡ length lent
  pub count : r.count ≤ most_visits
  pub written : List ℕ
  pub next : r.put ≡ put + length written
  pub left : d ≡ take put lent ++ (written ++ drop (put + length written) lent)
  pub rest : (a : Sheet) → IsSheet s a → Shaped z → RunFits a (meaning_of z) → (more : Bool) (x : Result) →
      Runs a part more r.at (length lent - r.put) (counting (meaning_of z) r.count) x → Runs a part more from (length lent - put) (meaning_of z) (after_writing written x)
