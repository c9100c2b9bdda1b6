-- The machine of document 01's "Running": one step for each event. `move` says which acts an event asks for, by the grammar alone; `step` does them.
-- Assumes nothing.
use Rattle.std.specs.Prelude.{Bool, true, false, List, [], ◌∷◌, ◌++◌, ℕ, suc, eqb, leb, length}
use Rattle.std.proofs.Math.Option.{Option, none, some}
use Rattle.expressions.specs.Expr.{Atom, nonterminal, anychar}
use Rattle.expressions.specs.Words.{Bracket}
use Rattle.expressions.specs.Grammar.{Production, tags_of, tag, character}
use Rattle.sheet.specs.Sheet.{Sheet}
use Rattle.expressions.specs.Grammar.{content_of}
use Rattle.runs.specs.Lookup.{tag_of, find}
use Rattle.runs.specs.Visits.{grammar}
use Rattle.runs.specs.Events.{Event, starts, ends, letter}
use Rattle.runs.specs.Acts.{Act, start_tag, end_tag, letter_read, bracket_acts, Store, fresh_store, acts}
use Rattle.runs.specs.Way.{Way, end_way, atom_way}

-- an open element: its production and its place
pub record Open : Type 0 where
  pub production : ℕ
  pub place : ℕ

pub data Control : Type 0 where
  before : Control  -- nothing read
  inside : Open → List Open → Control  -- the innermost open element, and those around it
  after : Control  -- the root is closed

pub data Turn : Type 0 where
  refuse : ℕ → Turn
  go : List Act → Control → Turn

abbrev pub at_place_lem : Open → ℕ → Open
at_place_lem o p = record { production = o.production; place = p }

abbrev pub at_start : ℕ → Open
at_start q = record { production = q; place = 0 }

-- the elements that may be open
abbrev pub most : ℕ
most = 32

-- 24 before the element is opened
abbrev pub opening_up : Bool → List Act → Control → Turn
opening_up true bs c = go bs c
opening_up false bs c = refuse 24

abbrev pub start_at : ℕ → Open → List Open → Way → Option ℕ → Turn
start_at lim o os w none = refuse 23
start_at lim o os w (some q) =
    opening_up (leb (suc (suc (length os))) lim) (bracket_acts o.production w.string ++ start_tag q ∷ [])
    (inside (at_start q) (at_place_lem o w.place ∷ os))

abbrev pub production_for : List Production → Atom → ℕ → Option ℕ
production_for g (nonterminal n) t = find g n t
production_for g anychar t = none

abbrev pub start_by : List Production → ℕ → Open → List Open → ℕ → Option Way → Turn
start_by g lim o os t none = refuse 23
start_by g lim o os t (some w) = start_at lim o os w (production_for g w.kind t)

abbrev pub root_by : Option ℕ → Turn
root_by none = refuse 23
root_by (some q) = go (start_tag q ∷ []) (inside (at_start q) [])

abbrev pub outer : List Open → Control
outer [] = after
outer (o ∷ os) = inside o os

abbrev pub end_by : Open → List Open → Option (List Bracket) → Turn
end_by o os none = refuse 23
end_by o os (some α) = go (bracket_acts o.production α ++ end_tag o.production ∷ []) (outer os)

abbrev pub same_tag : Option ℕ → ℕ → Bool
same_tag none u = false
same_tag (some t) u = eqb t u

abbrev pub own_tag : Bool → Turn → Turn
own_tag true u = u
own_tag false u = refuse 22

abbrev pub char_by : Open → List Open → ℕ → Option Way → Turn
char_by o os c none = refuse 23
char_by o os c (some w) =
    go (bracket_acts o.production w.string ++ letter_read c ∷ []) (inside (at_place_lem o w.place) os)

-- which acts an event asks for, and where the run stands after them; n is the start nonterminal, and lim elements may be open. The numbers are tested
-- in the order 26, 22, 23, 24; only then are the acts done, one of which may reject (25)
abbrev pub move : List Production → ℕ → ℕ → Control → Event → Turn
move g n lim before (starts none) = refuse 23
move g n lim before (starts (some t)) = root_by (find g n t)
move g n lim before (ends t) = refuse 22
move g n lim before (letter c) = refuse 23
move g n lim (inside o os) (starts none) = refuse 23
move g n lim (inside o os) (starts (some t)) =
    start_by g lim o os t (atom_way (tags_of g) (content_of g o.production) o.place (tag t))
move g n lim (inside o os) (ends t) =
    own_tag (same_tag t (tag_of g o.production)) (end_by o os (end_way (content_of g o.production) o.place))
move g n lim (inside o os) (letter c) = char_by o os c (atom_way (tags_of g) (content_of g o.production) o.place character)
move g n lim after x = refuse 26

pub record Configuration : Type 0 where
  pub control : Control
  pub store : Store

abbrev pub fresh_configuration : Configuration
fresh_configuration = record { control = before; store = fresh_store }

-- what one event comes to: the state after it, or a number
pub data Answer : Type 0 where
  took : Configuration → Answer
  refused : ℕ → Answer

abbrev pub acted : Control → Option Store → Answer
acted c none = refused 25
acted c (some m) = took (record { control = c; store = m })

abbrev pub turned : Sheet → Store → Turn → Answer
turned s m (refuse n) = refused n
turned s m (go bs c) = acted c (acts s bs m)

abbrev pub step : Sheet → Configuration → Event → Answer
step s z x = turned s z.store (move (grammar s) s.start_nonterminal most z.control x)

-- what events come to: the state after all of them; or the number of the first that is refused, the state before it, and the events from it on
pub data Outcome : Type 0 where
  finished : Configuration → Outcome
  stopped : ℕ → Configuration → List Event → Outcome

abbrev pub onward : Configuration → List Event → Answer → (Configuration → Outcome) → Outcome
onward z xs (took z') f = f z'
onward z xs (refused n) f = stopped n z xs

abbrev pub run : Sheet → Configuration → List Event → Outcome
run s z [] = finished z
run s z (x ∷ xs) = onward z (x ∷ xs) (step s z x) (λ z'. run s z' xs)

-- events taken together or not at all
abbrev pub answered : Outcome → Answer
answered (finished z) = took z
answered (stopped k z xs) = refused k
