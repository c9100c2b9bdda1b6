-- What is promised to a host: a call adds at most 130 visits for each token that it takes, whatever the bytes of the sheet, of the part and of the state.
-- Assumes nothing.
use Rattle.std.specs.Prelude.{◌≡◌, Bool, not, List, [], ◌∷◌, ℕ, ◌+◌, ◌*◌, ◌≤◌, length, eqb}
use Rattle.tokens.specs.declared.Event.{Event}
use Rattle.tokens.specs.Stream.{Reads}
use Rattle.state.specs.Bytes.{state_from}
use Rattle.state.specs.declared.State.{State}
use Rattle.ceiling.specs.Visits.{for_token}
use Rattle.converter.specs.declared.Reply.{Reply}
use Rattle.converter.specs.declared.Counts.{Counts}
use Rattle.converter.specs.Answered.{AnsweredAs}
use Rattle.converter.specs.Bytes.{BytesAnsweredAs}
use Rattle.capi.specs.RunAnswer.{RunAs}

-- visits, where the count was `before` in front of the call: at most 130 more for each token of the bytes taken
pub record AtMost (more : Bool) (part : List ℕ) (before taken visits : ℕ) : Type 0 where
  pub tokens : List Event
  pub are_taken : Reads more part 0 tokens taken
  pub few : visits ≤ before + for_token * length tokens

abbrev pub CallsCost : Type 0
CallsCost =
    (s : List ℕ) (z : State) (part : List ℕ) (ended : Bool) (lent after : List ℕ) (r : Reply) → AnsweredAs s z part ended lent after r →
    AtMost (not ended) part z.count r.taken r.visits

-- the same where the state is bytes
abbrev pub BytesCost : Type 0
BytesCost =
    (s b b' part : List ℕ) (ended : Bool) (lent after : List ℕ) (r : Counts) → BytesAnsweredAs s b b' part ended lent after r →
    AtMost (not ended) part (state_from b).count r.taken r.visits

-- and for hosts in C, who find the bytes taken and the visits in the counts
abbrev pub HostsCost : Type 0
HostsCost =
    (s b b' part : List ℕ) (ended : ℕ) (lent after counts : List ℕ) (w : ℕ) → RunAs s b b' part ended lent after counts w →
    (taken written visits : ℕ) → counts ≡ taken ∷ written ∷ visits ∷ [] → AtMost (not (not (eqb ended 0))) part (state_from b).count taken visits
