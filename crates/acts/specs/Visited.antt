-- What the parts of an act answer and leave: the field of a visit, one visit, the echo of a tag, one bracket.
-- Assumes nothing.
use Rattle.std.specs.Prelude.{Option as Taken, Some, None, IfSome, ◌≡◌, Bool, true, false, List, [], ℕ, suc, ◌+◌, ◌-◌, ◌*◌, ◌≤◌, ◌<◌}
use Rattle.std.proofs.Math.Option.{Option, none}
use Rattle.lent.specs.Put.{PutAs}
use Rattle.expressions.specs.Words.{Bracket, opening, closing}
use Rattle.programs.specs.Program.{Program}
use Rattle.programs.specs.Limits.{Visit, first, second}
use Rattle.programs.specs.Section.{FieldIs}
use Rattle.sheet.specs.Fields.{Visits}
use Rattle.sheet.specs.Sheet.{Sheet, IsSheet}
use Rattle.output.specs.Escape.{Piece, start, end, render}
use Rattle.visits.specs.Written.{Pen}
use Rattle.visits.specs.Ran.{most_printed, Came}
use Rattle.visits.specs.Performed.{PerformedAs}
use Rattle.visits.specs.declared.Env.{Env}
use Rattle.visits.specs.declared.Performed.{Performed}
use Rattle.ways.specs.Held.{code_of}
use Rattle.runs.specs.Execute.{Effect}
use Rattle.runs.specs.Visits.{programs_of, performed, tag_name, while_on}
use Rattle.runs.specs.Acts.{bracket_act, act}
use Rattle.runs.specs.Machine.{Open, inside}
use Rattle.state.specs.Bounds.{most_sets}
use Rattle.state.specs.Changes.{top_of, with_env}
use Rattle.state.specs.Meaning.{meaning_of, Shaped}
use Rattle.state.specs.declared.State.{State}
use Rattle.acts.specs.Seen.{ActedSeen}
use Rattle.acts.specs.Acted.{Comes, visit_reach}

-- of a node's two visits, the second where `again` says so: the visit, its program, and what it can recall
abbrev pub visit_of : Bool → Visit
visit_of false = first
visit_of true = second

abbrev pub program_for : Bool → Visits → Option Program
program_for false v = v.first_visit
program_for true v = v.second_visit

abbrev pub recalled_in : Bool → List ℕ → List ℕ
recalled_in false kept = []
recalled_in true kept = kept

-- r is the field that names the program for a visit of production q's node i
pub record FieldFound (s : List ℕ) (q i : ℕ) (again : Bool) (r : ℕ) : Type 0 where
  pub is : (a : Sheet) (y : IsSheet s a) → FieldIs y.well_formed_lem.programs.programs (visit_of again) r (program_for again (programs_of a.rules q i))

-- the program of production q's node i for a visit, performed: reach is what a caller asks of output
pub record PerformsAs (s : List ℕ) (q i : ℕ) (again : Bool) (kept : List ℕ) (e : Env) (p : Pen) (r : Taken Performed) (d : List ℕ) : Type 0 where
  pub reach : IfSome r (λ x. x.at ≤ p.at + most_printed * 16384)
  pub field : ℕ
  pub found : FieldFound s q i again field
  pub done : PerformedAs s field kept e p r d

-- a visit is rejected where its program is; else it came to that
abbrev pub VisitTo : Option Effect → Pen → Taken ActedSeen → List ℕ → Type 0
VisitTo o p None d = o ≡ none
VisitTo o p (Some r) d = Came o p r.at (record { values = r.state.values; echo = r.state.echo }) d

-- a visit of production q's node i: it changes attributes, echo and count alone
pub record VisitedAs (s : List ℕ) (q i : ℕ) (again : Bool) (kept : List ℕ) (z : State) (p : Pen) (r : Taken ActedSeen) (d : List ℕ) : Type 0 where
  pub reach : IfSome r (λ x. x.at ≤ p.at + most_printed * 16384)
  pub count : IfSome r (λ x. x.state.count ≡ z.count + 1)
  pub dry : p.write ≡ false → d ≡ p.lent
  pub state_is : IfSome r (λ x. x.state ≡ with_env z x.state.values x.state.echo (suc z.count))
  pub right : (a : Sheet) → IsSheet s a → VisitTo (performed a (recalled_in again kept) (program_for again (programs_of a.rules q i)) z.values z.echo) p r d

-- the echo of production q's start tag or end tag
abbrev pub tag_piece : Bool → List ℕ → Piece
tag_piece false n = start n
tag_piece true n = end n

pub record EchoedAs (s : List ℕ) (q : ℕ) (ending on : Bool) (p : Pen) (r : ℕ) (d : List ℕ) : Type 0 where
  pub reach : r ≤ p.at + 64
  pub dry : p.write ≡ false → d ≡ p.lent
  pub right : (a : Sheet) → IsSheet s a → PutAs p.write p.lent p.at (render (while_on on (tag_piece ending (tag_name a q)))) d r

-- a bracket needs room for a set, or a set; and how many sets are in use after it
abbrev pub SetRoom : Bracket → ℕ → Type 0
SetRoom (opening i) n = n < most_sets
SetRoom (closing i) n = 0 < n

abbrev pub sets_after : Bracket → ℕ → ℕ
sets_after (opening i) n = n + 1
sets_after (closing i) n = n - 1

-- the visit of a bracket of production q
pub record NodeAs (s : List ℕ) (q : ℕ) (b : Bracket) (z : State) (p : Pen) (r : Taken ActedSeen) (d : List ℕ) : Type 0 where
  pub reach : IfSome r (λ x. x.at ≤ p.at + visit_reach)
  pub count : IfSome r (λ x. x.state.count ≤ z.count + 1)
  pub deep : IfSome r (λ x. x.state.depth ≡ z.depth)
  pub dry : p.write ≡ false → d ≡ p.lent
  pub sets : Shaped z → 0 < z.depth → SetRoom b (top_of z).«open» → IfSome r (λ x. (top_of x.state).«open» ≡ sets_after b (top_of z).«open»)
  pub right : (a : Sheet) → IsSheet s a → Shaped z → (o : Open) (os : List Open) → (meaning_of z).control ≡ inside o os → SetRoom b (top_of z).«open» →
      Comes (act a (bracket_act q b) (meaning_of z).store) (meaning_of z).control z p r d

-- the same of the bracket whose byte is c
pub record BracketAs (s : List ℕ) (q c : ℕ) (z : State) (p : Pen) (r : Taken ActedSeen) (d : List ℕ) : Type 0 where
  pub reach : IfSome r (λ x. x.at ≤ p.at + visit_reach)
  pub count : IfSome r (λ x. x.state.count ≤ z.count + 1)
  pub deep : IfSome r (λ x. x.state.depth ≡ z.depth)
  pub dry : p.write ≡ false → d ≡ p.lent
  pub right : (b : Bracket) → c ≡ code_of b → NodeAs s q b z p r d
