-- An event, a token, and a token within its limits are answered alike from states that are alike.
-- Assumes nothing.
use mathlib.Core.Path.{◌≡◌, refl, sym, ap, ap₂, ◌∙◌, subst}
use mathlib.Core.Bool.{Bool, true, false, ◌&&◌}
use mathlib.Core.List.{List, [], ◌∷◌}
use mathlib.Core.Option.{Option}
use Prim.Native.Nat.{ℕ}
use native.Mathlib.Omega.{arith}
use lib.Dec.{leb}
use lib.ListN.{length}
use Rattle.programs.specs.Bounds.{Bounds}
use Rattle.sheet.specs.Sheet.{Sheet}
use Rattle.output.specs.Escape.{Piece, render}
use Rattle.runs.specs.Visits.{grammar, most_visits}
use Rattle.runs.specs.Events.{Event}
use Rattle.runs.specs.Acts.{Store, acts}
use Rattle.runs.specs.Machine.{Control, Turn, refuse, go, move, most, Configuration, Answer, took, refused, acted, turned, step, Outcome, finished, stopped, onward, run, answered}
use Rattle.runs.specs.Spells.{Token, events_of_token, is_blank, passes_at, unless_blank, step_token}
use Rattle.calls.specs.Limits.{silent, output_of, Taking, taken, refuses, no_room, limited, within, one_token}
use Rattle.widening.proofs.Alike.{Both, neither, each}
use Rattle.widening.proofs.Acts.{Stores, AllFitIn, acts_alike}

pub record States (top : ℕ) (z z' : Configuration) : Type 0 where
  pub control : z.control ≡ z'.control
  pub store : Stores top z.store z'.store

pub data Answers (top : ℕ) : Answer → Answer → Type 0 where
  both_took : {z z' : Configuration} → States top z z' → Answers top (took z) (took z')
  both_refused : (n : ℕ) → Answers top (refused n) (refused n)

-- what a stop leaves is not looked at: a token's events are taken together or not at all
data Outcomes (top : ℕ) : Outcome → Outcome → Type 0 where
  both_finished : {z z' : Configuration} → States top z z' → Outcomes top (finished z) (finished z')
  both_stopped : (n : ℕ) {z z' : Configuration} {xs ys : List Event} → Outcomes top (stopped n z xs) (stopped n z' ys)

pub data Takings (top : ℕ) : Taking → Taking → Type 0 where
  both_taken : {z z' : Configuration} {w w' : List ℕ} → States top z z' → w ≡ w' → Takings top (taken z w) (taken z' w')
  both_refuse : (n : ℕ) → Takings top (refuses n) (refuses n)
  both_full : Takings top no_room no_room

acted_alike : {top : ℕ} (c : Control) {o o' : Option Store} → Both (Stores top) o o' → Answers top (acted c o) (acted c o')
acted_alike c neither = both_refused 25
acted_alike c (each r) = both_took (record { control = refl; store = r })

onward_alike : {top : ℕ} (z z' : Configuration) (xs : List Event) (f : Configuration → Outcome) → ((y y' : Configuration) → States top y y' → Outcomes top (f y) (f y')) →
    {o o' : Answer} → Answers top o o' → Outcomes top (onward z xs o f) (onward z' xs o' f)
onward_alike z z' xs f F (both_took {z = y} {z' = y'} h) = F y y' h
onward_alike z z' xs f F (both_refused n) = both_stopped n

answered_alike : {top : ℕ} {o o' : Outcome} → Outcomes top o o' → Answers top (answered o) (answered o')
answered_alike (both_finished h) = both_took h
answered_alike (both_stopped n) = both_refused n

unless_alike : {top : ℕ} (p : Bool) (z z' : Configuration) → States top z z' → {o o' : Answer} → Answers top o o' → Answers top (unless_blank p z o) (unless_blank p z' o')
unless_alike true z z' h g = both_took h
unless_alike false z z' h g = g

limited_alike : {top : ℕ} (z z' : Configuration) → States top z z' → (p q : Bool) → Takings top (limited z p q) (limited z' p q)
limited_alike z z' h false q = both_refuse 30
limited_alike z z' h true false = both_full
limited_alike z z' h true true =
    both_taken
    (record { control = h.control; store = record { kept = h.store.kept; env = record { values = h.store.env.values; echo = h.store.env.echo; out = refl; count = h.store.env.count } } })
    (ap render h.store.env.out)

within_alike : {top : ℕ} (room : ℕ) {o o' : Answer} → Answers top o o' → Takings top (within room o) (within room o')
within_alike room (both_refused n) = both_refuse n
within_alike {top} room (both_took {z = z} {z' = z'} h) =
    subst (λ (p : Bool). Takings top (within room (took z)) (limited z' p (leb (length (output_of z')) room))) (ap (λ (n : ℕ). leb n most_visits) h.store.env.count)
    (subst (λ (p : Bool). Takings top (within room (took z)) (limited z' (leb z.store.env.count most_visits) p))
    (ap (λ (o : List Piece). leb (length (render o)) room) h.store.env.out)
    (limited_alike z z' h (leb z.store.env.count most_visits) (leb (length (output_of z)) room)))

module _ (a : Sheet) (b : Bounds) (keeps : AllFitIn b a) where
  abbrev top : ℕ
  top = b.highest_attribute

  turned_alike : (t : Turn) (m m' : Store) → Stores top m m' → Answers top (turned a m t) (turned a m' t)
  turned_alike (refuse n) m m' h = both_refused n
  turned_alike (go bs c) m m' h = acted_alike c (acts_alike a b keeps bs m m' h)

  step_alike : (x : Event) (z z' : Configuration) → States top z z' → Answers top (step a z x) (step a z' x)
  step_alike x z z' h =
      subst (λ (c : Control). Answers top (step a z x) (turned a z'.store (move (grammar a) a.start_nonterminal most c x))) h.control
      (turned_alike (move (grammar a) a.start_nonterminal most z.control x) z.store z'.store h.store)

  run_alike : (xs : List Event) (z z' : Configuration) → States top z z' → Outcomes top (run a z xs) (run a z' xs)
  run_alike [] z z' h = both_finished h
  run_alike (x ∷ xs) z z' h = onward_alike z z' (x ∷ xs) (λ y. run a y xs) (λ y y' g. run_alike xs y y' g) (step_alike x z z' h)

  token_alike : (k : Token) (z z' : Configuration) → States top z z' → Answers top (step_token a z k) (step_token a z' k)
  token_alike k z z' h =
      subst (λ (c : Control). Answers top (step_token a z k) (unless_blank (is_blank k && passes_at (grammar a) c) z' (answered (run a z' (events_of_token k))))) h.control
      (unless_alike (is_blank k && passes_at (grammar a) z.control) z z' h (answered_alike (run_alike (events_of_token k) z z' h)))

  pub one_token_alike : (room : ℕ) (k : Token) (z z' : Configuration) → States top z z' → Takings top (one_token a z room k) (one_token a z' room k)
  one_token_alike room k z z' h = within_alike room (token_alike k z z' h)
