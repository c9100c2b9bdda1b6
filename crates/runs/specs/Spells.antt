-- Tokens over events: white space that is no event, the empty tag as two events, and which rows of tokens spell a tree's events.
-- Assumes nothing.
use Rattle.std.specs.Prelude.{◌≡◌, Bool, true, false, ◌&&◌, List, [], ◌∷◌, ◌++◌, ℕ, ◌≤◌}
use Rattle.std.proofs.Math.Option.{Option, some}
use Rattle.text.specs.Names.{blank}
use Rattle.expressions.specs.Expr.{Exp, atom, cat, alt, star, empty, nonterminal, anychar, Content, nothing, tree}
use Rattle.expressions.specs.Grammar.{Production}
use Rattle.sheet.specs.Sheet.{Sheet}
use Rattle.expressions.specs.Grammar.{content_of}
use Rattle.runs.specs.Lookup.{tag_of}
use Rattle.runs.specs.Visits.{grammar, Env, fresh}
use Rattle.runs.specs.Events.{Event, starts, ends, letter}
use Rattle.runs.specs.Parse.{Element, element, Children, childless, children, Parse, child, one_char, pair, first_of, second_of, repeat, void, Parses, done, next, element_depth, eval}
use Rattle.runs.specs.Machine.{Control, before, inside, after, most, Configuration, Answer, took, refused, answered, run}

-- a tag is its number, and none where the sheet has no tag of that name
pub data Token : Type 0 where
  start_token end_token empty_token : Option ℕ → Token
  literal : ℕ → Token  -- a character as it stands
  reference : ℕ → Token  -- one that a reference names, which is never white space

abbrev pub events_of_token : Token → List Event
events_of_token (start_token t) = starts t ∷ []
events_of_token (end_token t) = ends t ∷ []
events_of_token (empty_token t) = starts t ∷ ends t ∷ []
events_of_token (literal c) = letter c ∷ []
events_of_token (reference c) = letter c ∷ []

abbrev pub is_blank : Token → Bool
is_blank (start_token t) = false
is_blank (end_token t) = false
is_blank (empty_token t) = false
is_blank (literal c) = blank c
is_blank (reference c) = false

-- inside an element whose expression has no character atom white space is no event
abbrev pub no_character : Exp → Bool
no_character (atom (nonterminal n)) = true
no_character (atom anychar) = false
no_character (cat l r) = no_character l && no_character r
no_character (alt l r) = no_character l && no_character r
no_character (star e) = no_character e
no_character empty = true

-- an element whose production has no nodes is declared EMPTY: white space in it is a character, which nothing there allows
abbrev pub blanks_pass : Content → Bool
blanks_pass nothing = false
blanks_pass (tree e) = no_character e

-- an event, and whether white space passes in front of it
pub record Mark : Type 0 where
  pub passes : Bool
  pub event : Event

abbrev pub event_mark : Bool → Event → Mark
event_mark b x = record { passes = b; event = x }

abbrev pub events_of_marks : List Mark → List Event
events_of_marks [] = []
events_of_marks (m ∷ ms) = m.event ∷ events_of_marks ms

-- a tree's events, marked by what is open in front of each: `outside` around the tree, its own content inside it
abbrev mutual
  pub marks : {g : List Production} {n : ℕ} → Element g n → Bool → List Mark
  marks {g} (element q h c) outside =
      event_mark outside (starts (some (tag_of g q)))
      ∷ (marks_C c (blanks_pass (content_of g q)) ++ event_mark (blanks_pass (content_of g q)) (ends (some (tag_of g q))) ∷ [])

  pub marks_C : {g : List Production} {c : Content} → Children g c → Bool → List Mark
  marks_C childless b = []
  marks_C (children p) b = marks_P p b

  pub marks_P : {g : List Production} {e : Exp} → Parse g e → Bool → List Mark
  marks_P (child t) b = marks t b
  marks_P (one_char c) b = event_mark b (letter c) ∷ []
  marks_P (pair l r) b = marks_P l b ++ marks_P r b
  marks_P (first_of l) b = marks_P l b
  marks_P (second_of r) b = marks_P r b
  marks_P (repeat ps) b = marks_ps ps b
  marks_P void b = []

  pub marks_ps : {g : List Production} {e : Exp} → Parses g e → Bool → List Mark
  marks_ps done b = []
  marks_ps (next p ps) b = marks_P p b ++ marks_ps ps b

-- tokens spell marked events: each token is white space where that passes, or its events. `last` says whether white space passes behind the last event
pub data Spells (last : Bool) : List Mark → List Token → Type 0 where
  all_read : Spells last [] []
  blank_after : {ts : List Token} (k : Token) → is_blank k ≡ true → last ≡ true → Spells last [] ts → Spells last [] (k ∷ ts)
  blank_between : {ms : List Mark} {ts : List Token} (k : Token) (x : Event) → is_blank k ≡ true → Spells last (event_mark true x ∷ ms) ts → Spells last (event_mark true x ∷ ms) (k ∷ ts)
  one_event : {ms : List Mark} {ts : List Token} (k : Token) (b : Bool) (x : Event) → is_blank k && b ≡ false → events_of_token k ≡ x ∷ [] → Spells last ms ts →
      Spells last (event_mark b x ∷ ms) (k ∷ ts)
  empty_tag : {ms : List Mark} {ts : List Token} (t : Option ℕ) (b b' : Bool) → Spells last ms ts →
      Spells last (event_mark b (starts t) ∷ event_mark b' (ends t) ∷ ms) (empty_token t ∷ ts)

-- demand 2 over tokens: they spell the events of a tree, with white space before and after the root, no deeper than the limit, in which no step
-- rejects; v is what it comes to
pub record Spelled (s : Sheet) (ts : List Token) (v : Env) : Type 0 where
  pub root : Element (grammar s) s.start_nonterminal
  pub spells : Spells true (marks root true) ts
  pub fits : element_depth root ≤ most
  pub value : eval root s fresh ≡ some v

-- the machine over tokens
abbrev pub passes_at : List Production → Control → Bool
passes_at g before = true
passes_at g (inside o os) = blanks_pass (content_of g o.production)
passes_at g after = true

abbrev pub unless_blank : Bool → Configuration → Answer → Answer
unless_blank true z a = took z
unless_blank false z a = a

abbrev pub step_token : Sheet → Configuration → Token → Answer
step_token s z k = unless_blank (is_blank k && passes_at (grammar s) z.control) z (answered (run s z (events_of_token k)))

-- as far as tokens are taken: the number of the first that is refused, the state before it, and the tokens from it on
pub data TokenOutcome : Type 0 where
  through : Configuration → TokenOutcome
  stops : ℕ → Configuration → List Token → TokenOutcome

abbrev pub onward_token : Configuration → List Token → Answer → (Configuration → TokenOutcome) → TokenOutcome
onward_token z ts (took z') f = f z'
onward_token z ts (refused k) f = stops k z ts

abbrev pub run_tokens : Sheet → Configuration → List Token → TokenOutcome
run_tokens s z [] = through z
run_tokens s z (k ∷ ts) = onward_token z (k ∷ ts) (step_token s z k) (λ z'. run_tokens s z' ts)
