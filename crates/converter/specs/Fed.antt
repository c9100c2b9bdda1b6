-- One call of the code in a chain of them: what it is handed, what it hands back, and what it answers. How such calls feed a stream is `Feeds` of the calls.
-- Assumes nothing.
use Rattle.std.specs.Prelude.{◌≡◌, Bool, not, List, ◌++◌, ℕ, length, take, drop}
use Rattle.calls.specs.Call.{Result}
use Rattle.state.specs.Bytes.{state_from}
use Rattle.state.specs.declared.State.{State}
use Rattle.converter.specs.declared.Reply.{Reply}
use Rattle.converter.specs.declared.Counts.{Counts}
use Rattle.converter.specs.Answered.{held_of, AnsweredAs}
use Rattle.converter.specs.Bytes.{BytesAnsweredAs}

-- a reply as the answer of a call: the output is the first bytes of the lent memory, as many as are written
abbrev pub result_of : List ℕ → Reply → Result
result_of after r = record { number = r.number; taken = r.taken; output = take r.written after; held = held_of r.state }

abbrev pub result_in : List ℕ → List ℕ → Counts → Result
result_in after b r = record { number = r.number; taken = r.taken; output = take r.written after; held = held_of (state_from b) }

-- a call whose state is a value, with so much room lent; it is told whether the stream ends with the part
pub record ValueCall (s part : List ℕ) (more : Bool) (room : ℕ) (z z' : State) (x : Result) (v : ℕ) : Type 0 where
  pub lent : List ℕ
  pub after : List ℕ
  pub ended : Bool
  pub reply : Reply
  pub answered : AnsweredAs s z part ended lent after reply
  pub told : not ended ≡ more
  pub as_long : length lent ≡ room
  pub state : reply.state ≡ z'
  pub result : x ≡ result_of after reply
  pub visits : v ≡ reply.visits

-- a call whose state is bytes
pub record BytesCall (s part : List ℕ) (more : Bool) (room : ℕ) (b b' : List ℕ) (x : Result) (v : ℕ) : Type 0 where
  pub lent : List ℕ
  pub after : List ℕ
  pub ended : Bool
  pub counts : Counts
  pub answered : BytesAnsweredAs s b b' part ended lent after counts
  pub told : not ended ≡ more
  pub as_long : length lent ≡ room
  pub result : x ≡ result_in after b' counts
  pub visits : v ≡ counts.visits

-- as many bytes are written as the output has; it stands first in the memory that was lent, and every byte past it is as lent
pub record AsLent (lent after : List ℕ) (written : ℕ) (x : Result) : Type 0 where
  pub is_written : written ≡ length x.output
  pub left : after ≡ x.output ++ drop (length x.output) lent

abbrev pub ValueAsLent : (s part : List ℕ) (more : Bool) (room : ℕ) (z z' : State) (x : Result) (v : ℕ) → ValueCall s part more room z z' x v → Type 0
ValueAsLent s part more room z z' x v c = AsLent c.lent c.after c.reply.written x

abbrev pub BytesAsLent : (s part : List ℕ) (more : Bool) (room : ℕ) (b b' : List ℕ) (x : Result) (v : ℕ) → BytesCall s part more room b b' x v → Type 0
BytesAsLent s part more room b b' x v c = AsLent c.lent c.after c.counts.written x
