-- One call of wickpollen_run in a chain of them, and what is promised of such chains from wickpollen_fresh, under a sheet a, the bytes s, that passes. How such calls
-- feed a stream is `Feeds` of the calls.
-- Assumes nothing.
use Rattle.std.specs.Prelude.{◌≡◌, Bool, false, List, ℕ, ◌≤◌, ◌<◌, eqb, length, take, get_or}
use Rattle.sheet.specs.Sheet.{Sheet}
use Rattle.output.specs.Escape.{render}
use Rattle.runs.specs.Visits.{Env}
use Rattle.calls.specs.Call.{Result}
use Rattle.calls.specs.Accepted.{Accepted}
use Rattle.calls.specs.Parts.{Feeds, EachCall, FedAccepted}
use Rattle.state.specs.Bounds.{state_width}
use Rattle.state.specs.Bytes.{state_from}
use Rattle.converter.specs.Answered.{held_of}
use Rattle.converter.specs.Fed.{AsLent}
use Rattle.converter.specs.Promises.{ZeroExactly}
use Rattle.converter.specs.Explained.{FedExactly, FedReadBack}
use Rattle.capi.specs.Started.{StartedAs}
use Rattle.capi.specs.RunAnswer.{RunAs}

-- b and b' are the bytes of the state before and after the call: the answer is the number, the counts tell what was taken, written and visited
pub record RunCall (s part : List ℕ) (more : Bool) (room : ℕ) (b b' : List ℕ) (x : Result) (v : ℕ) : Type 0 where
  pub lent : List ℕ
  pub after : List ℕ
  pub ended : ℕ
  pub counts : List ℕ
  pub number : ℕ
  pub answered : RunAs s b b' part ended lent after counts number
  pub told : eqb ended 0 ≡ more
  pub as_long : length lent ≡ room
  pub result : x ≡ record { number = number; taken = get_or counts 0 0; output = take (get_or counts 1 0) after; held = held_of (state_from b') }
  pub visits : v ≡ get_or counts 2 0

abbrev pub RunAsLent : (s part : List ℕ) (more : Bool) (room : ℕ) (b b' : List ℕ) (x : Result) (v : ℕ) → RunCall s part more room b b' x v → Type 0
RunAsLent s part more room b b' x v c = AsLent c.lent c.after (get_or c.counts 1 0) x

-- from what wickpollen_fresh has written, in whatever parts and rooms: 0 in the end exactly when the stream is accepted and its output has room
abbrev pub HostAccepts : List ℕ → Sheet → Type 0
HostAccepts s a =
    (lent area : List ℕ) (w : ℕ) → StartedAs lent area w → 0 < w → (whole : List ℕ) (room : ℕ) (x : Result) (v : ℕ) →
    Feeds (RunCall s) false whole room (take state_width area) x v → ZeroExactly a whole room x.number

-- and then all is as the tree says, and of each call every byte of the memory lent to it past its output is as lent
abbrev pub HostConverts : List ℕ → Sheet → Type 0
HostConverts s a =
    (lent area : List ℕ) (w : ℕ) → StartedAs lent area w → 0 < w → (whole : List ℕ) (room : ℕ) (x : Result) (v : ℕ) →
    (d : Feeds (RunCall s) false whole room (take state_width area) x v) → (e : Env) → Accepted a whole e → length (render e.out) ≤ room →
    FedAccepted whole e x v × EachCall (RunAsLent s) d

-- of every number: what the calls answer together is what trees say; of each call as many bytes are written as its output has, and every byte of the memory lent to it past them is as
-- lent
abbrev pub HostFedExactly : List ℕ → Sheet → Type 0
HostFedExactly s a = (lent area : List ℕ) (w : ℕ) → StartedAs lent area w → 0 < w → FedExactly (RunCall s) (RunAsLent s) (take state_width area) a

-- and what they write reads back as the tags and characters that the tree puts out
abbrev pub HostFedReadBack : List ℕ → Sheet → Type 0
HostFedReadBack s a = (lent area : List ℕ) (w : ℕ) → StartedAs lent area w → 0 < w → FedReadBack (RunCall s) (take state_width area) a
