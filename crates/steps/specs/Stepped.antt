-- What an event answers and leaves, and what a token without the limits on count and room does: the machine's answer, as the code holds it.
-- Assumes nothing.
use Rattle.std.specs.Prelude.{Option as Answered, Some, None, ◌≡◌, false, List, ℕ, ◌+◌, ◌*◌, ◌≤◌}
use Rattle.std.proofs.Math.Option.{Option, none, some}
use Rattle.lent.specs.Put.{PutAs}
use Rattle.output.specs.Escape.{render}
use Rattle.tokens.specs.declared.Event.{Event as Read}
use Rattle.sheet.specs.Sheet.{Sheet, IsSheet}
use Rattle.visits.specs.Written.{Pen}
use Rattle.runs.specs.Events.{Event}
use Rattle.runs.specs.Machine.{Configuration as Standing, Answer, took, refused, step}
use Rattle.runs.specs.Spells.{step_token}
use Rattle.calls.specs.Limits.{silent}
use Rattle.calls.specs.Names.{token_of}
use Rattle.fit.specs.RunFits.{RunFits}
use Rattle.state.specs.Meaning.{meaning_of, Shaped}
use Rattle.state.specs.declared.State.{State}
use Rattle.few.specs.Strings.{most_brackets}
use Rattle.acts.specs.Acted.{visit_reach}
use Rattle.steps.specs.Seen.{SteppedSeen}

-- the event was taken, and m is where the run then stands: the state stands for that, and m's output is what was written from p on
pub record Took (m : Standing) (z : State) (p : Pen) (r : SteppedSeen) (d : List ℕ) : Type 0 where
  pub number : r.number ≡ 0
  pub means : meaning_of r.state ≡ silent m
  pub shaped : Shaped r.state
  pub closed : r.state.closed ≡ z.closed
  pub written : PutAs p.write p.lent p.at (render m.store.env.out) d r.at

abbrev pub StepAnswered : Answer → State → Pen → SteppedSeen → List ℕ → Type 0
StepAnswered (refused n) z p r d = r.number ≡ n
StepAnswered (took m) z p r d = Took m z p r d

-- a tag as it was looked up: by its number, or none of the sheet's
abbrev pub tag_in : Answered ℕ → Option ℕ
tag_in None = none
tag_in (Some t) = some t

-- the most visits of one event, a way's brackets and a production's own, and the most that they write
abbrev pub event_visits : ℕ
event_visits = most_brackets + 1

abbrev pub event_reach : ℕ
event_reach = event_visits * visit_reach

-- the event x
pub record SteppedAs (s : List ℕ) (x : Event) (z : State) (p : Pen) (r : SteppedSeen) (d : List ℕ) : Type 0 where
  pub reach : r.at ≤ p.at + event_reach
  pub count : r.state.count ≤ z.count + event_visits
  pub dry : p.write ≡ false → d ≡ p.lent
  pub right : (a : Sheet) → IsSheet s a → Shaped z → RunFits a (meaning_of z) → StepAnswered (step a (meaning_of z) x) z p r d

-- the token e of a part, its start and its end together where it is an empty tag
pub record TokenAs (s part : List ℕ) (e : Read) (z : State) (p : Pen) (r : SteppedSeen) (d : List ℕ) : Type 0 where
  pub reach : r.at ≤ p.at + 2 * event_reach
  pub count : r.state.count ≤ z.count + 2 * event_visits
  pub dry : p.write ≡ false → d ≡ p.lent
  pub right : (a : Sheet) → IsSheet s a → Shaped z → RunFits a (meaning_of z) → StepAnswered (step_token a (meaning_of z) (token_of a part e)) z p r d
