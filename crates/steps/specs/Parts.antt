-- What the parts of taking an event hand on: the ground that they stand on, and what following a way to an atom comes to.
-- Assumes nothing.
use Rattle.std.specs.Prelude.{Option as Taken, Some, None, IfSome, ◌≡◌, Bool, false, List, ℕ, ◌+◌, ◌*◌, ◌≤◌, length}
use Rattle.std.proofs.Math.Option.{some}
use Rattle.expressions.specs.Grammar.{tags_of, content_of, Next}
use Rattle.sheet.specs.Sheet.{Sheet, IsSheet}
use Rattle.visits.specs.Written.{Pen}
use Rattle.ways.specs.Held.{codes}
use Rattle.few.specs.Strings.{most_brackets}
use Rattle.runs.specs.Acts.{bracket_acts, acts}
use Rattle.runs.specs.Machine.{Open, inside, at_place_lem}
use Rattle.runs.specs.Taken.{Passed}
use Rattle.runs.specs.Spells.{Token, passes_at, step_token}
use Rattle.runs.specs.Visits.{grammar}
use Rattle.runs.specs.Way.{Way as Found, atom_way}
use Rattle.fit.specs.RunFits.{RunFits}
use Rattle.state.specs.Changes.{top_of}
use Rattle.state.specs.Meaning.{open_of, meaning_of, Shaped}
use Rattle.state.specs.declared.State.{State}
use Rattle.acts.specs.Acted.{Comes, visit_reach}
use Rattle.acts.specs.Seen.{ActedSeen}
use Rattle.steps.specs.declared.Run.{Run}
use Rattle.steps.specs.declared.Stepped.{Stepped as LiveStepped}
use Rattle.acts.specs.declared.Acted.{Acted as LiveActed}
use Rattle.state.specs.Bounds.{stack_width}
use Rattle.live.specs.declared.Live.{Live}
use Rattle.live.specs.Live.{full, SameBelow}
use Rattle.steps.specs.Seen.{SteppedSeen}
use Rattle.steps.specs.Stepped.{StepAnswered, event_reach, event_visits}

-- the bytes are a sheet that passes, and the state is of a run that fits it
pub record RunReady (s : List ℕ) (z : State) : Type 0 where
  pub sheet : Sheet
  pub is_sheet : IsSheet s sheet
  pub passed : Passed sheet
  pub shaped : Shaped z
  pub fits : RunFits sheet (meaning_of z)

-- the same of the live part of a state and the lent stack, which is long enough
pub record ReadyAt (s : List ℕ) (h : Live) (b : List ℕ) : Type 0 where
  pub ready : RunReady s (full h b)
  pub long : stack_width ≤ length b

-- what an event answers where it may push: what the state before it reads of the stack is as it was
pub record OverStack (h : Live) (b b' : List ℕ) (P : Type 0) : Type 0 where
  pub stepped : P
  pub below : SameBelow h b b'
  pub long : length b' ≡ length b

-- refused with n, the run as it was
abbrev pub refusing : ℕ → Run → LiveStepped
refusing n u = record { number = n; at = u.at; live = u.live }

-- as the acts came out: a rejection is 25, and the run is as it was
abbrev pub answering_live : Run → Taken LiveActed → LiveStepped
answering_live u None = refusing 25 u
answering_live u (Some x) = record { number = 0; at = x.at; live = x.live }

abbrev pub answering : State → ℕ → Taken ActedSeen → SteppedSeen
answering z at None = record { number = 25; at = at; state = z }
answering z at (Some x) = record { number = 0; at = x.at; state = x.state }

-- the brackets' visits of a way to an atom that can be x, whose string's bytes are the line, and the innermost element at its place
pub record FollowsAs (s : List ℕ) (place : ℕ) (line : List ℕ) (z : State) (p : Pen) (r : Taken ActedSeen) (d : List ℕ) : Type 0 where
  pub reach : IfSome r (λ x. x.at ≤ p.at + most_brackets * visit_reach)
  pub count : IfSome r (λ x. x.state.count ≤ z.count + most_brackets)
  pub deep : IfSome r (λ x. x.state.depth ≡ z.depth)
  pub dry : p.write ≡ false → d ≡ p.lent
  pub right : (a : Sheet) → IsSheet s a → Shaped z → RunFits a (meaning_of z) → (os : List Open) → (meaning_of z).control ≡ inside (open_of (top_of z)) os →
      (x : Next) (v : Found) → atom_way (tags_of (grammar a)) (content_of (grammar a) (top_of z).production) (top_of z).place x ≡ some v → place ≡ v.place → line ≡ codes v.string →
      Comes (acts a (bracket_acts (top_of z).production v.string) (meaning_of z).store) (inside (at_place_lem (open_of (top_of z)) v.place) os) z p r d

-- whether white space is no event where the run stands
pub record PassesAs (s : List ℕ) (z : State) (r : Bool) : Type 0 where
  pub is : (a : Sheet) → IsSheet s a → Shaped z → RunFits a (meaning_of z) → r ≡ passes_at (grammar a) (meaning_of z).control

-- the token k
pub record OneTokenAs (s : List ℕ) (k : Token) (z : State) (p : Pen) (r : SteppedSeen) (d : List ℕ) : Type 0 where
  pub reach : r.at ≤ p.at + 2 * event_reach
  pub count : r.state.count ≤ z.count + 2 * event_visits
  pub dry : p.write ≡ false → d ≡ p.lent
  pub right : (a : Sheet) → IsSheet s a → Shaped z → RunFits a (meaning_of z) → StepAnswered (step_token a (meaning_of z) k) z p r d
