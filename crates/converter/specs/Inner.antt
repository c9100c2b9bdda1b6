-- What the parts of a call hand on: a call that may run, whether one does, and what it stops with.
-- Assumes nothing.
use Rattle.std.specs.Prelude.{◌≡◌, Bool, cond, List, ℕ, ◌≤◌}
use Rattle.std.proofs.Math.Option.{Option, some}
use Rattle.tokens.specs.declared.Answer.{Answer}
use Rattle.tokens.specs.declared.Answer.TheVariants.{Token, Waiting, Begun, Bad, Long}
use Rattle.sheet.specs.Sheet.{Sheet, IsSheet}
use Rattle.runs.specs.Taken.{Passed}
use Rattle.runs.specs.Machine.{Control, most}
use Rattle.calls.specs.Held.{leaves_open}
use Rattle.calls.specs.Call.{number_at}
use Rattle.state.specs.Changes.{not_closed, closed_with, tidied}
use Rattle.state.specs.Meaning.{meaning_of, Shaped}
use Rattle.state.specs.declared.State.{State}
use Rattle.fit.specs.RunFits.{RunFits}
use Rattle.live.specs.declared.Live.{Live}
use Rattle.live.specs.Live.{full}
use Rattle.converter.specs.declared.Reply.{Reply}
use Rattle.converter.specs.declared.LiveReply.{LiveReply}
use Rattle.converter.specs.Answered.{FitsSheet, GivenBack, Ran}

-- the sheet passes, and the state fits it and is open
pub record MayRun (s : List ℕ) (z : State) : Type 0 where
  pub sheet : Sheet
  pub is_sheet : IsSheet s sheet
  pub passed : Passed sheet
  pub fits : FitsSheet sheet z
  pub is_open : z.closed ≡ not_closed
  pub shaped : Shaped z
  pub run_fits : RunFits sheet (meaning_of z)

-- 0 where the call may run from the state that o is, else the number that gives the state back
pub data Entered (s : List ℕ) (o : Option State) : ℕ → Type 0 where
  may_run : (z : State) → o ≡ some z → MayRun s z → Entered s o 0
  given_back : {n : ℕ} → 1 ≤ n → GivenBack s o n → Entered s o n

-- the number where no whole token comes next
abbrev pub NumberedAs : Bool → ℕ → Control → Answer → ℕ → Type 0
NumberedAs more left c (Token e next) n = Unit {0}
NumberedAs more left c (Waiting e next) n = Unit {0}
NumberedAs more left c Begun n = number_at more left c Begun ≡ some n
NumberedAs more left c Bad n = number_at more left c Bad ≡ some n
NumberedAs more left c Long n = number_at more left c Long ≡ some n

-- the state that is left with a number
abbrev pub left_with : ℕ → State → State
left_with n z = cond (leaves_open n) z (closed_with z n)

-- a reply that stops with a number at a place, so much being written: what is left is handed back with nothing in what is not in use
pub record StopsAs (n at put : ℕ) (z : State) (r : Reply) : Type 0 where
  pub number : r.number ≡ n
  pub taken : r.taken ≡ at
  pub written : r.written ≡ put
  pub visits : r.visits ≡ r.state.count
  pub state : r.state ≡ tidied (left_with n z)

-- the same of the live part of a state
abbrev pub closed_live : Live → ℕ → Live
closed_live h n =
    record { values = h.values; echo = h.echo; count = h.count; rooted = h.rooted; closed = n; depth = h.depth; top = h.top }

abbrev pub left_live : ℕ → Live → Live
left_live n h = cond (leaves_open n) h (closed_live h n)

pub record StopsLive (n at put : ℕ) (h : Live) (r : LiveReply) : Type 0 where
  pub number : r.number ≡ n
  pub taken : r.taken ≡ at
  pub written : r.written ≡ put
  pub visits : r.visits ≡ r.live.count
  pub live : r.live ≡ left_live n h

-- a run's reply with the state that is handed back: the live part and the stack's bytes together
abbrev pub seen : LiveReply → List ℕ → Reply
seen r b = record { number = r.number; taken = r.taken; written = r.written; visits = r.visits; state = tidied (full r.live b) }

-- a run over the live part and the stack, which are then b
pub record RanLive (s : List ℕ) (z : State) (part : List ℕ) (ended : Bool) (lent after : List ℕ) (r : LiveReply) (b : List ℕ) : Type 0 where
  pub deep : r.live.depth ≤ most
  pub visits : r.visits ≡ r.live.count
  pub ran : Ran s z part ended lent after (seen r b)
