-- What a call answers whose state is bytes, whatever they are: the bytes are untouched with 1 to 9, 28, 29 and a repeated number; else they are those of the
-- state handed back.
-- Assumes nothing.
use Rattle.std.specs.Prelude.{◌≡◌, Bool, cond, List, ℕ, eqb, length}
use Rattle.std.proofs.Math.Option.{Option, none, some}
use Rattle.state.specs.Bounds.{state_width}
use Rattle.state.specs.Bytes.{bytes_of, state_from}
use Rattle.state.specs.declared.State.{State}
use Rattle.converter.specs.declared.Reply.{Reply}
use Rattle.converter.specs.declared.Counts.{Counts}
use Rattle.converter.specs.Answered.{held_of, state_of, GivenBack, Ran, AnsweredAs}

-- bytes of another length are no state
abbrev pub state_in : List ℕ → Option State
state_in b = cond (eqb (length b) state_width) (some (state_from b)) none

-- nothing is taken or written, and the bytes are untouched; the visits are the count that they hold
pub record Untouched (b b' lent after : List ℕ) (r : Counts) : Type 0 where
  pub taken : r.taken ≡ 0
  pub written : r.written ≡ 0
  pub visits : r.visits ≡ (state_from b).count
  pub same : b' ≡ b
  pub left : after ≡ lent

-- the same numbers as a call whose state is a value
pub record SameNumbers (q : Reply) (r : Counts) : Type 0 where
  pub number : r.number ≡ q.number
  pub taken : r.taken ≡ q.taken
  pub written : r.written ≡ q.written
  pub visits : r.visits ≡ q.state.count

-- b are the bytes before the call, b' those after it: those of the state handed back, as which they read back
pub data BytesAnsweredAs (s b b' part : List ℕ) (ended : Bool) (lent after : List ℕ) (r : Counts) : Type 0 where
  as_given : GivenBack s (state_in b) r.number → Untouched b b' lent after r → BytesAnsweredAs s b b' part ended lent after r
  runs : state_in b ≡ some (state_from b) → (q : Reply) → Ran s (state_from b) part ended lent after q → SameNumbers q r → b' ≡ bytes_of q.state → state_from b' ≡ q.state →
      BytesAnsweredAs s b b' part ended lent after r

-- the same call with the state that the bytes are as a value: what is said of that is said of this one
pub record AsValue (s b b' part : List ℕ) (ended : Bool) (lent after : List ℕ) (r : Counts) : Type 0 where
  pub reply : Reply
  pub answered : AnsweredAs s (state_from b) part ended lent after reply
  pub counts : SameNumbers reply r
  pub reads_back : state_from b' ≡ reply.state

-- what two answers of a call whose state is bytes have in common, to the byte
pub record SameCounts (b b' after after' : List ℕ) (r q : Counts) : Type 0 where
  pub counts : r ≡ q
  pub left : after ≡ after'
  pub bytes : b ≡ b'

-- bytes that a call hands back are of this form, and so are those of a fresh state: there is one for what is held
abbrev pub CanonicalBytes : List ℕ → Type 0
CanonicalBytes b = b ≡ bytes_of (state_of (held_of (state_from b)))
