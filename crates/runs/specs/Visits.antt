-- What one visit does, and what a tag and a character do: the attributes, echo, the output and the count of visits.
-- Assumes nothing.
use Rattle.std.specs.Prelude.{Bool, true, false, List, [], ◌∷◌, ◌++◌, ℕ, zero, suc, ◌^◌, replicate}
use Rattle.std.proofs.Math.Option.{Option, none, some}
use Rattle.expressions.specs.Grammar.{Production}
use Rattle.programs.specs.Program.{Program}
use Rattle.programs.specs.Bounds.{bounds, attributes_in}
use Rattle.sheet.specs.Fields.{Visits}
use Rattle.sheet.specs.Sheet.{Rule, Sheet, grammar_of}
use Rattle.output.specs.Escape.{Piece, start, end, character}
use Rattle.runs.specs.Options.{bind}
use Rattle.runs.specs.Execute.{Effect, name_of, execute}
use Rattle.runs.specs.Lookup.{tag_of}

abbrev pub grammar : Sheet → List Production
grammar s = grammar_of s.rules

-- the programs of production q's node i: the node whose brackets have the number i, and 0 is the production itself
abbrev pub no_programs_lem : Visits
no_programs_lem = record { first_visit = none; second_visit = none }

abbrev pub of_node : List Visits → ℕ → Visits
of_node [] i = no_programs_lem
of_node (v ∷ vs) zero = v
of_node (v ∷ vs) (suc i) = of_node vs i

abbrev pub of_rule : Rule → ℕ → Visits
of_rule r zero = r.own
of_rule r (suc i) = of_node r.of_nodes i

abbrev pub programs_of : List Rule → ℕ → ℕ → Visits
programs_of [] q i = no_programs_lem
programs_of (r ∷ rs) zero i = of_rule r i
programs_of (r ∷ rs) (suc q) i = programs_of rs q i

-- the name of production q's tag
abbrev pub tag_name : Sheet → ℕ → List ℕ
tag_name s q = name_of s.names (tag_of (grammar s) q)

-- what the visits work on; `out` is the output since the start of what is looked at
pub record Env : Type 0 where
  pub values : List ℕ
  pub echo : Bool
  pub out : List Piece
  pub count : ℕ

-- how many attributes there are
abbrev pub attributes : ℕ
attributes = attributes_in bounds

-- the count of visits goes no further
abbrev pub most_visits : ℕ
most_visits = 2 ^ 62

-- at the start each of so many attributes is 0
abbrev pub fresh_with : ℕ → Env
fresh_with n = record { values = replicate n 0; echo = false; out = []; count = 0 }

abbrev pub fresh : Env
fresh = fresh_with attributes

-- what is kept of a node from its first visit to its second: the attributes just after the first, echo just before it
pub record Saved : Type 0 where
  pub values : List ℕ
  pub echo : Bool

abbrev pub saved : Env → Env → Saved
saved before after = record { values = after.values; echo = before.echo }

-- the program, or, where there is none, nothing; k are the values just after the node's first visit
abbrev pub performed : Sheet → List ℕ → Option Program → List ℕ → Bool → Option Effect
performed s k none vs on = some (record { values = vs; echo = on; printed = [] })
performed s k (some p) vs on = execute s k p vs on

-- every visit, with or without a program, counts one
abbrev pub visited : Env → Effect → Env
visited v x = record { values = x.values; echo = x.echo; out = v.out ++ x.printed; count = suc v.count }

abbrev pub visit : Sheet → List ℕ → Option Program → Env → Option Env
visit s k p v = bind (performed s k p v.values v.echo) (λ x. some (visited v x))

-- echoing prints only while echo is on
abbrev pub while_on : Bool → Piece → List Piece
while_on true o = o ∷ []
while_on false o = []

abbrev pub echoed : Piece → Env → Env
echoed o v = record { values = v.values; echo = v.echo; out = v.out ++ while_on v.echo o; count = v.count }

abbrev pub returned : Bool → Env → Env
returned b v = record { values = v.values; echo = b; out = v.out; count = v.count }

-- an opening bracket runs the node's first-visit program, which has nothing to recall. none is a rejection
abbrev pub opens : Sheet → ℕ → ℕ → Env → Option Env
opens s q i v = visit s [] (programs_of s.rules q i).first_visit v

-- a second visit
abbrev pub revisits : Sheet → ℕ → ℕ → Saved → Env → Option Env
revisits s q i k v = visit s k.values (programs_of s.rules q i).second_visit v

-- a closing bracket runs the node's second-visit program; last of all echo returns to what it was before the first visit
abbrev pub closes : Sheet → ℕ → ℕ → Saved → Env → Option Env
closes s q i k v = bind (revisits s q i k v) (λ w. some (returned k.echo w))

-- a start tag runs its production's first-visit program and echoes the tag
abbrev pub enters : Sheet → ℕ → Env → Option Env
enters s q v = bind (opens s q 0 v) (λ w. some (echoed (start (tag_name s q)) w))

-- an end tag runs the second-visit program and echoes the end tag; last of all echo returns
abbrev pub leaves : Sheet → ℕ → Saved → Env → Option Env
leaves s q k v = bind (revisits s q 0 k v) (λ w. some (returned k.echo (echoed (end (tag_name s q)) w)))

-- a character is echoed
abbrev pub reads : Sheet → ℕ → Env → Option Env
reads s c v = some (echoed (character c) v)

-- the same after more output
abbrev pub behind : List Piece → Env → Env
behind o v = record { values = v.values; echo = v.echo; out = o ++ v.out; count = v.count }
