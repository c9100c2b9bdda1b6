-- What it is for a whole stream to be accepted (demand 2, over bytes), and what its call answers.
-- Assumes nothing.
use Rattle.std.specs.Prelude.{◌≡◌, false, List, [], ◌↔◌, ℕ, ◌*◌, ◌≤◌, length}
use Rattle.std.proofs.Math.Option.{some}
use Rattle.tokens.specs.Tokens.{Tok}
use Rattle.tokens.specs.Stream.{flat, AllGood, AllShort, AllWhole}
use Rattle.tokens.specs.LineEnds.{normal}
use Rattle.sheet.specs.Sheet.{Sheet}
use Rattle.output.specs.Escape.{render}
use Rattle.runs.specs.Visits.{Env}
use Rattle.runs.specs.Parse.{size}
use Rattle.runs.specs.Taken.{closed_with}
use Rattle.runs.specs.Spells.{Spelled}
use Rattle.calls.specs.Names.{tokens_for}
use Rattle.runs.specs.Visits.{most_visits}
use Rattle.calls.specs.Limits.{without_output}
use Rattle.calls.specs.Held.{fresh_held}
use Rattle.calls.specs.Call.{Result, Called}

-- the bytes are tokens of at most 32 bytes each, a CR and an LF behind it being one, which spell a tree no deeper than the limit in which no step rejects; v is what it
-- comes to, and its visits are within the limit
pub record Accepted (a : Sheet) (s : List ℕ) (v : Env) : Type 0 where
  pub tokens : List Tok
  pub good : AllGood tokens
  pub short : AllShort tokens
  pub whole : AllWhole false tokens []
  pub are_bytes : s ≡ flat tokens
  pub spells : Spelled a (tokens_for a tokens) v
  pub counts : v.count ≤ most_visits

-- 0, all is taken, the whole output is written, and the run is closed by 0 with the attributes, echo and count of the tree
abbrev pub accepted : List ℕ → Env → Result
accepted s v =
    record { number = 0; taken = length s; output = render v.out; held = record { run = closed_with (without_output v); closing = some 0 } }

-- the stream is accepted, its output has room, and r is what its call answers
abbrev pub AcceptedIn : Sheet → List ℕ → ℕ → Result → Env → Type 0
AcceptedIn a s room r v = Accepted a s v × (length (render v.out) ≤ room) × (r ≡ accepted s v)

-- demand 2 over bytes: a call on the whole stream, from a fresh state, answers 0 exactly when the stream is accepted and its output has room
abbrev pub AcceptedExactly : Sheet → Type 0
AcceptedExactly a = (s : List ℕ) (room : ℕ) (r : Result) → (Called a s false room fresh_held r × (r.number ≡ 0)) ↔ ((v : Env) × AcceptedIn a s room r v)

-- the visits are twice the nodes of the attributed tree
abbrev pub TwiceTheNodes : Sheet → Type 0
TwiceTheNodes a = (s : List ℕ) (v : Env) (x : Accepted a s v) → v.count ≡ 2 * size x.spells.root

-- line ends do not matter: a stream that is accepted is accepted with each CR LF, and each CR that no LF follows, an LF, and comes to the same. Not back: inside a
-- tag both count to its 32 bytes
abbrev pub AcceptedNormalised : Sheet → Type 0
AcceptedNormalised a = (s : List ℕ) (v : Env) → Accepted a s v → Accepted a (normal s) v
