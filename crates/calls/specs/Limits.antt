-- One token with the limits on the count and on the room: what it comes to, in document 01's order 26, 22, 23, 24, 25, 30, 17.
-- Assumes nothing.
use Rattle.std.specs.Prelude.{◌≡◌, Bool, true, false, List, [], ℕ, ◌≤◌, ◌<◌, leb, length}
use Rattle.sheet.specs.Sheet.{Sheet}
use Rattle.output.specs.Escape.{render}
use Rattle.runs.specs.Visits.{most_visits, Env}
use Rattle.runs.specs.Machine.{Configuration, Answer, took, refused}
use Rattle.runs.specs.Spells.{Token, step_token}

-- a state between tokens, which holds no output
abbrev pub without_output : Env → Env
without_output v = record { values = v.values; echo = v.echo; out = []; count = v.count }

abbrev pub silent : Configuration → Configuration
silent z = record { control = z.control; store = record { kept = z.store.kept; env = without_output z.store.env } }

-- what a state's output is written as
abbrev pub output_of : Configuration → List ℕ
output_of z = render z.store.env.out

pub data Taking : Type 0 where
  taken : Configuration → List ℕ → Taking  -- the state after the token, and the bytes that it writes
  refuses : ℕ → Taking  -- the number of the refusal
  no_room : Taking  -- 17

-- z is the state after the token, with its output; whether its count is within the limit, and whether its output is within the room
abbrev pub limited : Configuration → Bool → Bool → Taking
limited z false b = refuses 30
limited z true false = no_room
limited z true true = taken (silent z) (output_of z)

-- an empty tag has gone through its start and its end before 30 and 17 are tested
abbrev pub within : ℕ → Answer → Taking
within room (refused n) = refuses n
within room (took z) = limited z (leb z.store.env.count most_visits) (leb (length (output_of z)) room)

-- the token k in a state without output, with so much room left
abbrev pub one_token : Sheet → Configuration → ℕ → Token → Taking
one_token a z room k = within room (step_token a z k)

-- 30: the token would be taken, and takes the count over the limit
abbrev pub Over : Sheet → Configuration → Token → ℕ → Type 0
Over a z k n = (n ≡ 30) × ((y : Configuration) × (step_token a z k ≡ took y) × (most_visits < y.store.env.count))

-- 17: it would be taken within the limit, and its output is longer than the room
abbrev pub Full : Sheet → Configuration → ℕ → Token → Type 0
Full a z room k = (y : Configuration) × (step_token a z k ≡ took y) × (y.store.env.count ≤ most_visits) × (room < length (output_of y))
