-- One token of a run: it does the same whatever output stands before it, its visits only raise the count, and it is refused with 22 to 26 alone.
-- Each is a law of the acts (`acts_frame`, `acts_count` of the runs) or of the control, carried over an event, then over a token's events.
-- Assumes nothing.
use mathlib.Core.Path.{◌≡◌, refl, sym, ap, ◌∙◌, subst}
use mathlib.Core.Bool.{Bool, true, false, ◌&&◌}
use mathlib.Core.List.{List, [], ◌∷◌, ◌++◌}
use mathlib.Core.Option.{Option, none, some}
use Prim.Native.Nat.{ℕ, suc, ◌≤◌}
use native.Mathlib.Omega.{arith}
use lib.Dec.{leb}
use lib.ListN.{length}
use Rattle.expressions.specs.Grammar.{Production}
use Rattle.output.specs.Escape.{Piece}
use Rattle.sheet.specs.Sheet.{Sheet}
use Rattle.expressions.specs.Grammar.{tags_of, content_of, tag, character}
use Rattle.expressions.specs.Words.{Bracket}
use Rattle.runs.specs.Options.{bind}
use Rattle.runs.specs.Lookup.{tag_of, find}
use Rattle.runs.specs.Visits.{grammar}
use Rattle.runs.specs.Events.{Event, starts, ends, letter}
use Rattle.runs.specs.Acts.{Act, start_tag, bracket_acts, Store, acts, store_behind}
use Rattle.runs.specs.Way.{Way, end_way, atom_way}
use Rattle.runs.specs.Machine.{Open, at_place_lem, at_start, Control, before, inside, after, Turn, refuse, go, most, opening_up, start_at, production_for, start_by, root_by, end_by, same_tag, own_tag, char_by, move, Configuration, Answer, took, refused, acted, turned, step, Outcome, finished, stopped, onward, answered, run}
use Rattle.runs.specs.Spells.{Token, events_of_token, is_blank, passes_at, unless_blank, step_token, TokenOutcome, through, onward_token, run_tokens}
use Rattle.runs.proofs.Frame.{acts_frame}
use Rattle.runs.proofs.Counts.{acts_count}
use Rattle.runs.proofs.Moves.{run_through, moves_run}
use Rattle.runs.proofs.Spells.{token_refused}

-- a state after more output
abbrev pub state_behind : List Piece → Configuration → Configuration
state_behind o z = record { control = z.control; store = store_behind o z.store }

abbrev pub answer_behind : List Piece → Answer → Answer
answer_behind o (took z) = took (state_behind o z)
answer_behind o (refused n) = refused n

module _ (s : Sheet) (o : List Piece) where
  turned_frame : (m : Store) (u : Turn) → turned s (store_behind o m) u ≡ answer_behind o (turned s m u)
  turned_frame m (refuse n) = refl
  turned_frame m (go bs c) = ap (acted c) (acts_frame s o bs m) ∙ by (acts s bs m)
    where
      by : (x : Option Store) → acted c (bind x (λ m'. some (store_behind o m'))) ≡ answer_behind o (acted c x)
      by none = refl
      by (some m') = refl

  pub step_frame : (z : Configuration) (x : Event) → step s (state_behind o z) x ≡ answer_behind o (step s z x)
  step_frame z x = turned_frame z.store (move (grammar s) s.start_nonterminal most z.control x)

  run_frame : (z : Configuration) (xs : List Event) → answered (run s (state_behind o z) xs) ≡ answer_behind o (answered (run s z xs))
  run_frame z [] = refl
  run_frame z (x ∷ xs) =
      ap (λ (y : Answer). answered (onward (state_behind o z) (x ∷ xs) y (λ z'. run s z' xs))) (step_frame z x) ∙ by (λ z'. run_frame z' xs) (step s z x)
    where
      by : ((z' : Configuration) → answered (run s (state_behind o z') xs) ≡ answer_behind o (answered (run s z' xs))) → (y : Answer) →
          answered (onward (state_behind o z) (x ∷ xs) (answer_behind o y) (λ z'. run s z' xs))
          ≡ answer_behind o (answered (onward z (x ∷ xs) y (λ z'. run s z' xs)))
      by f (took z') = f z'
      by f (refused n) = refl

  pub token_frame : (z : Configuration) (k : Token) → step_token s (state_behind o z) k ≡ answer_behind o (step_token s z k)
  token_frame z k = by (is_blank k && passes_at (grammar s) z.control)
    where
      by : (b : Bool) → unless_blank b (state_behind o z) (answered (run s (state_behind o z) (events_of_token k)))
          ≡ answer_behind o (unless_blank b z (answered (run s z (events_of_token k))))
      by true = refl
      by false = run_frame z (events_of_token k)

abbrev pub count_of : Configuration → ℕ
count_of z = z.store.env.count

module _ (s : Sheet) where
  run_count : (z : Configuration) (xs : List Event) (z' : Configuration) → run s z xs ≡ finished z' → count_of z ≤ count_of z'
  run_count z xs z' e =
      let t = moves_run s z.control z.store xs z' e in
      let h = acts_count s t.row z.store z'.store t.done in
      omega arith

  pub token_count : (z : Configuration) (k : Token) (z' : Configuration) → step_token s z k ≡ took z' → count_of z ≤ count_of z'
  token_count z k z' e = by (is_blank k && passes_at (grammar s) z.control) e
    where
      by : (b : Bool) → unless_blank b z (answered (run s z (events_of_token k))) ≡ took z' → count_of z ≤ count_of z'
      by true e = let h : z ≡ z' = cc in let i : count_of z ≡ count_of z' = ap count_of h in omega arith
      by false e = run_count z (events_of_token k) z' (run_through (run s z (events_of_token k)) z' e)

  pub tokens_count : (z : Configuration) (ks : List Token) (z' : Configuration) → run_tokens s z ks ≡ through z' → count_of z ≤ count_of z'
  tokens_count z [] z' e = let h : z ≡ z' = cc in let i : count_of z ≡ count_of z' = ap count_of h in omega arith
  tokens_count z (k ∷ ks) z' e = by (λ y h. tokens_count y ks z' h) (step_token s z k) refl e
    where
      by : ((y : Configuration) → run_tokens s y ks ≡ through z' → count_of y ≤ count_of z') → (x : Answer) → step_token s z k ≡ x →
          onward_token z (k ∷ ks) x (λ y. run_tokens s y ks) ≡ through z' → count_of z ≤ count_of z'
      by f (took y) t e = let h = token_count z k y t in let i = f y e in omega arith
      by f (refused n) t e = absurd (let y : ◌≡◌ {A = ℕ} 0 1 = cc in omega arith)

-- a refusal of the control has one of these numbers
abbrev Refusal : Turn → Type 0
Refusal (refuse n) = (22 ≤ n) × (n ≤ 26)
Refusal (go bs c) = Unit {0}

module _ (g : List Production) (n : ℕ) where
  opening_number : (b : Bool) (bs : List Act) (c : Control) → Refusal (opening_up b bs c)
  opening_number true bs c = tt
  opening_number false bs c = (omega arith, omega arith)

  start_number : (o : Open) (os : List Open) (w : Way) (q : Option ℕ) → Refusal (start_at most o os w q)
  start_number o os w none = (omega arith, omega arith)
  start_number o os w (some q) =
      opening_number (leb (suc (suc (length os))) most) (bracket_acts o.production w.string ++ start_tag q ∷ []) (inside (at_start q) (at_place_lem o w.place ∷ os))

  start_by_number : (o : Open) (os : List Open) (t : ℕ) (w : Option Way) → Refusal (start_by g most o os t w)
  start_by_number o os t none = (omega arith, omega arith)
  start_by_number o os t (some w) = start_number o os w (production_for g w.kind t)

  root_number : (q : Option ℕ) → Refusal (root_by q)
  root_number none = (omega arith, omega arith)
  root_number (some q) = tt

  end_number : (b : Bool) (o : Open) (os : List Open) (w : Option (List Bracket)) → Refusal (own_tag b (end_by o os w))
  end_number false o os w = (omega arith, omega arith)
  end_number true o os none = (omega arith, omega arith)
  end_number true o os (some α) = tt

  char_number : (o : Open) (os : List Open) (c : ℕ) (w : Option Way) → Refusal (char_by o os c w)
  char_number o os c none = (omega arith, omega arith)
  char_number o os c (some w) = tt

  move_number : (c : Control) (x : Event) → Refusal (move g n most c x)
  move_number before (starts none) = (omega arith, omega arith)
  move_number before (starts (some t)) = root_number (find g n t)
  move_number before (ends t) = (omega arith, omega arith)
  move_number before (letter c) = (omega arith, omega arith)
  move_number (inside o os) (starts none) = (omega arith, omega arith)
  move_number (inside o os) (starts (some t)) = start_by_number o os t (atom_way (tags_of g) (content_of g o.production) o.place (tag t))
  move_number (inside o os) (ends t) = end_number (same_tag t (tag_of g o.production)) o os (end_way (content_of g o.production) o.place)
  move_number (inside o os) (letter c) = char_number o os c (atom_way (tags_of g) (content_of g o.production) o.place character)
  move_number after x = (omega arith, omega arith)

module _ (s : Sheet) where
  pub step_number : (z : Configuration) (x : Event) (j : ℕ) → step s z x ≡ refused j → (22 ≤ j) × (j ≤ 26)
  step_number z x j e =
      by (move (grammar s) s.start_nonterminal most z.control x) (move_number (grammar s) s.start_nonterminal z.control x) e
    where
      acted_number : (c : Control) (y : Option Store) → acted c y ≡ refused j → (22 ≤ j) × (j ≤ 26)
      acted_number c none e = let h : 25 ≡ j = cc in (omega arith, omega arith)
      acted_number c (some m) e = absurd (let y : ◌≡◌ {A = ℕ} 0 1 = cc in omega arith)

      by : (u : Turn) → Refusal u → turned s z.store u ≡ refused j → (22 ≤ j) × (j ≤ 26)
      by (refuse n) h e = let i : n ≡ j = cc in (omega (arith, h.0), omega (arith, h.1))
      by (go bs c) h e = acted_number c (acts s bs z.store) e

  run_number : (z : Configuration) (xs : List Event) (j : ℕ) (z' : Configuration) (left : List Event) → run s z xs ≡ stopped j z' left → (22 ≤ j) × (j ≤ 26)
  run_number z [] j z' left e = absurd (let y : ◌≡◌ {A = ℕ} 0 1 = cc in omega arith)
  run_number z (x ∷ xs) j z' left e = by (λ y h. run_number y xs j z' left h) (step s z x) refl e
    where
      by : ((y : Configuration) → run s y xs ≡ stopped j z' left → (22 ≤ j) × (j ≤ 26)) → (y : Answer) → step s z x ≡ y →
          onward z (x ∷ xs) y (λ y. run s y xs) ≡ stopped j z' left → (22 ≤ j) × (j ≤ 26)
      by f (took y) t e = f y e
      by f (refused n) t e = let i : n ≡ j = cc in step_number z x j (t ∙ ap refused i)

  -- a token is refused with a number from 22 to 26
  pub token_number : (z : Configuration) (k : Token) (j : ℕ) → step_token s z k ≡ refused j → (22 ≤ j) × (j ≤ 26)
  token_number z k j e = let t = token_refused s z k j e in run_number z (events_of_token k) j t.1.0 t.1.1 t.1.2
