-- How many elements are open: a start tag opens one, an end tag closes one, and while one is open no token is refused with 26. So a run inside a record is never before or after the root.
-- Assumes nothing.
use mathlib.Core.Path.{◌≡◌, refl, ap}
use mathlib.Core.Bool.{Bool, true, false, ◌&&◌}
use mathlib.Core.List.{List, [], ◌∷◌, ◌++◌}
use mathlib.Core.Option.{Option, none, some}
use Prim.Native.Nat.{ℕ, suc, ◌≤◌}
use native.Mathlib.Omega.{arith}
use lib.Dec.{leb}
use lib.ListN.{length}
use Rattle.expressions.specs.Words.{Bracket}
use Rattle.expressions.specs.Grammar.{Production, tags_of, content_of, tag, character}
use Rattle.sheet.specs.Sheet.{Sheet}
use Rattle.runs.specs.Lookup.{tag_of}
use Rattle.runs.specs.Visits.{grammar}
use Rattle.runs.specs.Events.{Event, starts, ends, letter}
use Rattle.runs.specs.Acts.{Act, start_tag, bracket_acts, Store, acts}
use Rattle.runs.specs.Way.{Way, end_way, atom_way}
use Rattle.runs.specs.Machine.{Open, Control, before, inside, after, Turn, refuse, go, at_place_lem, at_start, most, opening_up, start_at, production_for, start_by, outer, end_by, same_tag, own_tag, char_by, move, Configuration, Answer, took, refused, acted, turned, step, finished, onward, run, answered}
use Rattle.runs.specs.Spells.{Token, start_token, end_token, empty_token, literal, reference, is_blank, passes_at, unless_blank, step_token}

abbrev pub open_in : Control → ℕ
open_in before = 0
open_in (inside o os) = suc (length os)
open_in after = 0

-- an event where d are open, and d' behind it
abbrev Changes : Event → ℕ → ℕ → Type 0
Changes (starts t) d d' = d' ≡ suc d
Changes (ends t) d d' = suc d' ≡ d
Changes (letter c) d d' = d' ≡ d

abbrev Turns : Event → ℕ → Turn → Type 0
Turns x d (refuse n) = n ≤ 25
Turns x d (go bs c) = Changes x d (open_in c)

module _ (g : List Production) (n : ℕ) (o : Open) (os : List Open) where
  opening_turns : (t : Option ℕ) (b : Bool) (bs : List Act) (o' o'' : Open) → Turns (starts t) (suc (length os)) (opening_up b bs (inside o' (o'' ∷ os)))
  opening_turns t true bs o' o'' = refl
  opening_turns t false bs o' o'' = omega arith

  start_turns : (t : Option ℕ) (w : Way) (q : Option ℕ) → Turns (starts t) (suc (length os)) (start_at most o os w q)
  start_turns t w none = omega arith
  start_turns t w (some q) = opening_turns t (leb (suc (suc (length os))) most) (bracket_acts o.production w.string ++ start_tag q ∷ []) (at_start q) (at_place_lem o w.place)

  start_by_turns : (t : ℕ) (w : Option Way) → Turns (starts (some t)) (suc (length os)) (start_by g most o os t w)
  start_by_turns t none = omega arith
  start_by_turns t (some w) = start_turns (some t) w (production_for g w.kind t)

  outer_open : (l : List Open) → open_in (outer l) ≡ length l
  outer_open [] = refl
  outer_open (p ∷ l) = refl

  end_turns : (t : Option ℕ) (b : Bool) (w : Option (List Bracket)) → Turns (ends t) (suc (length os)) (own_tag b (end_by o os w))
  end_turns t false w = omega arith
  end_turns t true none = omega arith
  end_turns t true (some α) = ap suc (outer_open os)

  char_turns : (c : ℕ) (w : Option Way) → Turns (letter c) (suc (length os)) (char_by o os c w)
  char_turns c none = omega arith
  char_turns c (some w) = refl

  move_turns : (x : Event) → Turns x (suc (length os)) (move g n most (inside o os) x)
  move_turns (starts none) = omega arith
  move_turns (starts (some t)) = start_by_turns t (atom_way (tags_of g) (content_of g o.production) o.place (tag t))
  move_turns (ends t) = end_turns t (same_tag t (tag_of g o.production)) (end_way (content_of g o.production) o.place)
  move_turns (letter c) = char_turns c (atom_way (tags_of g) (content_of g o.production) o.place character)

abbrev Stepped : Event → ℕ → Answer → Type 0
Stepped x d (took z) = Changes x d (open_in z.control)
Stepped x d (refused n) = n ≤ 25

-- what a token leaves of d: an end tag one less, and no other token fewer
abbrev pub Leaves : Token → ℕ → ℕ → Type 0
Leaves (start_token t) d d' = d ≤ d'
Leaves (end_token t) d d' = d ≤ suc d'
Leaves (empty_token t) d d' = d ≤ d'
Leaves (literal c) d d' = d ≤ d'
Leaves (reference c) d d' = d ≤ d'

abbrev pub TokenLeaves : Token → ℕ → Answer → Type 0
TokenLeaves k d (took z) = Leaves k d (open_in z.control)
TokenLeaves k d (refused n) = n ≤ 25

module _ (s : Sheet) where
  step_turns : (z : Configuration) (x : Event) → 1 ≤ open_in z.control → Stepped x (open_in z.control) (step s z x)
  step_turns z x h = by z.control h
    where
      of_acts : (c : Control) (d : ℕ) (m : Option Store) → Changes x d (open_in c) → Stepped x d (acted c m)
      of_acts c d none k = omega arith
      of_acts c d (some m) k = k

      of_turn : (d : ℕ) (u : Turn) → Turns x d u → Stepped x d (turned s z.store u)
      of_turn d (refuse n) k = k
      of_turn d (go bs c) k = of_acts c d (acts s bs z.store) k

      by : (c : Control) → 1 ≤ open_in c → Stepped x (open_in c) (turned s z.store (move (grammar s) s.start_nonterminal most c x))
      by before h = absurd (omega arith)
      by (inside o os) h =
          of_turn (suc (length os)) (move (grammar s) s.start_nonterminal most (inside o os) x) (move_turns (grammar s) s.start_nonterminal o os x)
      by after h = absurd (omega arith)

  module _ (z : Configuration) (h : 1 ≤ open_in z.control) where
    abbrev d : ℕ
    d = open_in z.control

    of_start : (t : Option ℕ) (u : Answer) → Stepped (starts t) d u → TokenLeaves (start_token t) d (answered (onward z (starts t ∷ []) u (λ y. finished y)))
    of_start t (took y) k = omega (arith, k)
    of_start t (refused n) k = k

    of_end : (t : Option ℕ) (u : Answer) → Stepped (ends t) d u → TokenLeaves (end_token t) d (answered (onward z (ends t ∷ []) u (λ y. finished y)))
    of_end t (took y) k = omega (arith, k)
    of_end t (refused n) k = k

    of_second : (t : Option ℕ) (y : Configuration) (u : Answer) → open_in y.control ≡ suc d → Stepped (ends t) (open_in y.control) u →
        TokenLeaves (empty_token t) d (answered (onward y (ends t ∷ []) u (λ v. finished v)))
    of_second t y (took v) e k = omega (arith, k, e)
    of_second t y (refused n) e k = k

    of_empty : (t : Option ℕ) (u : Answer) → Stepped (starts t) d u → TokenLeaves (empty_token t) d (answered (onward z (starts t ∷ ends t ∷ []) u (λ y. run s y (ends t ∷ []))))
    of_empty t (took y) k = of_second t y (step s y (ends t)) k (step_turns y (ends t) (omega (arith, k)))
    of_empty t (refused n) k = k

    -- the same of both kinds of characters
    abbrev Kept : Answer → Type 0
    Kept (took y) = d ≤ open_in y.control
    Kept (refused n) = n ≤ 25

    of_letter : (c : ℕ) (u : Answer) → Stepped (letter c) d u → Kept (answered (onward z (letter c ∷ []) u (λ y. finished y)))
    of_letter c (took y) k = omega (arith, k)
    of_letter c (refused n) k = k

    of_blank : (b : Bool) (u : Answer) → Kept u → Kept (unless_blank b z u)
    of_blank true u k = omega arith
    of_blank false u k = k

    as_literal : (c : ℕ) (u : Answer) → Kept u → TokenLeaves (literal c) d u
    as_literal c (took y) k = k
    as_literal c (refused n) k = k

    as_reference : (c : ℕ) (u : Answer) → Kept u → TokenLeaves (reference c) d u
    as_reference c (took y) k = k
    as_reference c (refused n) k = k

    pub token_leaves : (k : Token) → TokenLeaves k d (step_token s z k)
    token_leaves (start_token t) = of_start t (step s z (starts t)) (step_turns z (starts t) h)
    token_leaves (end_token t) = of_end t (step s z (ends t)) (step_turns z (ends t) h)
    token_leaves (empty_token t) = of_empty t (step s z (starts t)) (step_turns z (starts t) h)
    token_leaves (literal c) =
        as_literal c (step_token s z (literal c))
        (of_blank (is_blank (literal c) && passes_at (grammar s) z.control) (answered (run s z (letter c ∷ []))) (of_letter c (step s z (letter c)) (step_turns z (letter c) h)))
    token_leaves (reference c) = as_reference c (step_token s z (reference c)) (of_letter c (step s z (letter c)) (step_turns z (letter c) h))
