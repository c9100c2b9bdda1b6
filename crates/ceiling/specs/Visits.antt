-- What is promised of visits, for a passed sheet: an event visits each node of the open expression at most once on the way in and once on the way out, at
-- most 64 visits, and its production once more where it is a tag; so a token has at most 130, and a call at most 130 for each token that it takes.
-- Assumes nothing.
use Rattle.std.specs.Prelude.{◌≡◌, Bool, true, ◌&&◌, List, [], ◌∷◌, ℕ, ◌+◌, ◌*◌, ◌≤◌, length}
use Rattle.expressions.specs.Expr.{nodes_of}
use Rattle.expressions.specs.Grammar.{Production, content_of}
use Rattle.tokens.specs.declared.Event.{Event as Read}
use Rattle.sheet.specs.Sheet.{Sheet, IsSheet}
use Rattle.runs.specs.Visits.{grammar}
use Rattle.runs.specs.Events.{Event, starts, ends, letter}
use Rattle.runs.specs.Acts.{Act, visits_in}
use Rattle.runs.specs.Machine.{Control, go, move, most, Configuration, took, step}
use Rattle.runs.specs.Taken.{Passed}
use Rattle.runs.specs.Spells.{Token, events_of_token, is_blank, passes_at, step_token}
use Rattle.calls.specs.Held.{Held}
use Rattle.tokens.specs.Stream.{Reads}
use Rattle.calls.specs.Call.{Result, Called}
use Rattle.few.specs.Once.{Once}
use Rattle.limits.specs.Limits.{nodes_at_most}

abbrev pub FewNodes : List Production → Type 0
FewNodes g = (q : ℕ) → nodes_of (content_of g q) ≤ nodes_at_most

abbrev pub SheetsHaveFew : Type 0
SheetsHaveFew = (s : List ℕ) (a : Sheet) → IsSheet s a → FewNodes (grammar a)

-- an event's ceiling: two visits for each node, 64, and one for the production of a tag
abbrev pub for_nodes : ℕ
for_nodes = 2 * nodes_at_most

abbrev pub for_production : Event → ℕ
for_production (starts t) = 1
for_production (ends t) = 1
for_production (letter c) = 0

abbrev pub ceiling : List Event → ℕ
ceiling [] = 0
ceiling (x ∷ xs) = for_nodes + for_production x + ceiling xs

-- a token's ceiling: that of an empty tag, which has two events, 130
abbrev pub for_token : ℕ
for_token = 2 * (for_nodes + 1)

abbrev pub count_in : Configuration → ℕ
count_in z = z.store.env.count

-- the acts that an event asks for: none of them twice, and few visits among them
pub record FewActs (x : Event) (bs : List Act) : Type 0 where
  pub once : Once bs
  pub few : visits_in bs ≤ for_nodes + for_production x

abbrev pub EventVisits : Sheet → Type 0
EventVisits a = (c : Control) (x : Event) (bs : List Act) (c' : Control) → move (grammar a) a.start_nonterminal most c x ≡ go bs c' → FewActs x bs

abbrev pub StepVisits : Sheet → Type 0
StepVisits a = (z z' : Configuration) (x : Event) → step a z x ≡ took z' → count_in z' ≤ count_in z + (for_nodes + for_production x)

abbrev pub TokenVisits : Sheet → Type 0
TokenVisits a = (z z' : Configuration) (k : Token) → step_token a z k ≡ took z' → count_in z' ≤ count_in z + ceiling (events_of_token k)

-- white space that is no event leaves all as it was: it has no visit
abbrev pub BlankVisits : Sheet → Type 0
BlankVisits a = (z : Configuration) (k : Token) → is_blank k && passes_at (grammar a) z.control ≡ true → step_token a z k ≡ took z

-- es are the tokens that a call has taken
abbrev pub CallVisits : Sheet → Type 0
CallVisits a =
    (part : List ℕ) (more : Bool) (room : ℕ) (h : Held) (r : Result) → Called a part more room h r →
    (es : List Read) × Reads more part 0 es r.taken × (count_in r.held.run ≤ count_in h.run + for_token * length es)

-- all of it, of every sheet that bytes are and that passes
pub record VisitsPromised (a : Sheet) : Type 0 where
  pub of_events : EventVisits a
  pub of_steps : StepVisits a
  pub of_tokens : TokenVisits a
  pub of_blanks : BlankVisits a
  pub of_calls : CallVisits a

abbrev pub CeilingKept : Type 0
CeilingKept = (s : List ℕ) (a : Sheet) → IsSheet s a → Passed a → VisitsPromised a
