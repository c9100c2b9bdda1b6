-- What it is for events to be taken, and which number an event is refused with (demand 2 and the numbers 22 to 26, over events).
-- Assumes nothing.
use Rattle.std.specs.Prelude.{◌≡◌, List, [], ◌∷◌, ◌++◌, ℕ, ◌≤◌}
use Rattle.std.proofs.Math.Option.{Option, none, some}
use Rattle.expressions.specs.Expr.{nonterminal}
use Rattle.expressions.specs.Words.{Sym, at, Words}
use Rattle.expressions.specs.Grammar.{Production}
use Rattle.expressions.specs.FaultList.{KeepsT, KeepsS}
use Rattle.sheet.specs.Sheet.{Sheet}
use Rattle.expressions.specs.Grammar.{content_of}
use Rattle.runs.specs.Visits.{grammar, Env, fresh}
use Rattle.runs.specs.Events.{Event, ends, OpenTags, open_tags}
use Rattle.runs.specs.Parse.{Element, yield, element_depth, eval}
use Rattle.runs.specs.Acts.{Act, Store, fresh_store, acts}
use Rattle.runs.specs.Machine.{Configuration, after, most}
use Rattle.runs.specs.Line.{line, Opened}

-- a passed sheet keeps both rules
pub record Passed (s : Sheet) : Type 0 where
  pub keeps_T : KeepsT (grammar s)
  pub keeps_S : KeepsS (grammar s)

-- the events have a parse tree, no deeper than the limit, no step in it rejects, and v is what its attributes, echo, output and count come to
pub record ParsedTo (s : Sheet) (xs : List Event) (v : Env) : Type 0 where
  pub root : Element (grammar s) s.start_nonterminal
  pub are_events : yield root ≡ xs
  pub fits : element_depth root ≤ most
  pub value : eval root s fresh ≡ some v

-- the root is closed, and nothing is kept
abbrev pub closed_with : Env → Configuration
closed_with v = record { control = after; store = record { kept = []; env = v } }

-- the grammar allows these events from the start, with the acts that they ask for and the depth that they come to: there are none, a tree has
-- them, or an open tree, whether or not any tree goes on from it
pub data Allowed (g : List Production) (n : ℕ) : List Event → List Act → ℕ → Type 0 where
  no_event : Allowed g n [] [] 0
  whole : (t : Element g n) → Allowed g n (yield t) (line t) (element_depth t)
  begun : {xs : List Event} {bs : List Act} {d : ℕ} → Opened g n xs bs d → Allowed g n xs bs d

-- the events so far are allowed within the limit, none of the acts that they ask for rejects, and m is what they come to
pub record Reached (s : Sheet) (xs : List Event) (m : Store) : Type 0 where
  pub row : List Act
  pub deep : ℕ
  pub allowed : Allowed (grammar s) s.start_nonterminal xs row deep
  pub fits : deep ≤ most
  pub value : acts s row fresh_store ≡ some m

-- the root is closed: the events are those of a whole tree
abbrev pub RootClosed : Sheet → List Event → Type 0
RootClosed s xs = (t : Element (grammar s) s.start_nonterminal) × (yield t ≡ xs)

-- an end tag that is not the open element's
abbrev pub Innermost : Option ℕ → OpenTags → Type 0
Innermost t [] = ⊥
Innermost t (u ∷ us) = t ≡ u

pub record WrongEnd (xs : List Event) (x : Event) : Type 0 where
  pub its_tag : Option ℕ
  pub is_end : x ≡ ends its_tag
  pub not_own : Innermost its_tag (open_tags xs) → ⊥

-- the grammar allows them, and within the limit
abbrev pub AllowedIn : Sheet → List Event → Type 0
AllowedIn s xs = (bs : List Act) × (d : ℕ) × Allowed (grammar s) s.start_nonterminal xs bs d

abbrev pub AllowedWithin : Sheet → List Event → Type 0
AllowedWithin s xs = (bs : List Act) × (d : ℕ) × Allowed (grammar s) s.start_nonterminal xs bs d × (d ≤ most)

-- the number that the event x is refused with after the events xs
pub data Refused (s : Sheet) (xs : List Event) (x : Event) : ℕ → Type 0 where
  after_root : RootClosed s xs → Refused s xs x 26
  wrong_end : (RootClosed s xs → ⊥) → WrongEnd xs x → Refused s xs x 22
  not_allowed : (RootClosed s xs → ⊥) → (WrongEnd xs x → ⊥) → (AllowedIn s (xs ++ x ∷ []) → ⊥) → Refused s xs x 23
  too_deep : AllowedIn s (xs ++ x ∷ []) → (AllowedWithin s (xs ++ x ∷ []) → ⊥) → Refused s xs x 24
  rejecting : (w : AllowedWithin s (xs ++ x ∷ [])) → acts s w.0 fresh_store ≡ none → Refused s xs x 25

-- the first event that is refused, with its number, what those before it come to, and the events from it on
pub record Stopped (s : Sheet) (xs : List Event) (number : ℕ) (m : Store) (left : List Event) : Type 0 where
  pub before_it : List Event
  pub event : Event
  pub after_it : List Event
  pub are_events : xs ≡ before_it ++ event ∷ after_it
  pub are_left : left ≡ event ∷ after_it
  pub reached : Reached s before_it m
  pub is_refused : Refused s before_it event number

-- each nonterminal that stands in a word of an expression has a tree
abbrev pub Productive : List Production → Type 0
Productive g = (q j m : ℕ) (u v : List Sym) → Words (content_of g q) (u ++ at j (nonterminal m) ∷ v) → Element g m
