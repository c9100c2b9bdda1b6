-- The limit on open elements: a higher one allows all that a lower one does, and of the refusals only 24 depends on it. A run of the control
-- over more events is one over the first of them.
-- Assumes nothing.
use mathlib.Core.Path.{◌≡◌, sym, ◌∙◌, ap}
use mathlib.Core.Bool.{Bool, true, false}
use mathlib.Core.List.{List, [], ◌∷◌, ◌++◌}
use mathlib.Core.Option.{Option, none, some}
use Prim.Native.Nat.{ℕ, suc, ◌+◌, ◌≤◌}
use native.Mathlib.Omega.{arith}
use lib.Dec.{leb}
use lib.ListN.{length}
use borrow.Author.Tests.{le-leb}
use Rattle.expressions.specs.Expr.{Atom}
use Rattle.expressions.specs.Grammar.{tag, Production, tags_of}
use Rattle.expressions.specs.Grammar.{content_of}
use Rattle.runs.specs.Events.{Event, starts, ends, letter}
use Rattle.runs.specs.Way.{Way, atom_way}
use Rattle.runs.specs.Acts.{Act, bracket_acts, start_tag}
use Rattle.runs.specs.Machine.{at_place_lem, at_start, Control, before, inside, after, refuse, go, opening_up, start_at, start_by, production_for, move}
use Rattle.runs.proofs.Moves.{Moves, stay, then}
use Rattle.runs.proofs.Sound.{started}

pub record Split (g : List Production) (n lim : ℕ) (c : Control) (xs : List Event) (x : Event) : Type 0 where
  pub row : List Act
  pub now : List Act
  pub half : Control
  pub to : Control
  pub first_half : Moves g n lim c xs row half
  pub moved : move g n lim half x ≡ go now to

module _ {g : List Production} {n lim : ℕ} where
  pub split : {c c'' : Control} {zs : List Event} {bs : List Act} (xs : List Event) (x : Event) (ys : List Event) → Moves g n lim c zs bs c'' → zs ≡ xs ++ x ∷ ys →
      Split g n lim c xs x
  split [] x ys stay e = absurd (let z : ◌≡◌ {A = ℕ} 0 1 = cc in omega arith)
  split (x' ∷ xs) x ys stay e = absurd (let z : ◌≡◌ {A = ℕ} 0 1 = cc in omega arith)
  split {c} [] x ys (then {c' = c'} z bs q r) e =
      let h : z ≡ x = cc in
      record { row = []; now = bs; half = c; to = c'; first_half = stay; moved = ap (move g n lim c) (sym h) ∙ q }
  split {c} {c''} (x' ∷ xs) x ys (then {c' = c'} {xs = zs} z bs q r) e =
      let h : z ≡ x' = cc in
      let t : zs ≡ xs ++ x ∷ ys = cc in
      let s = split xs x ys r t in
      record { row = bs ++ s.row; now = s.now; half = s.half; to = s.to; first_half = then x' bs (ap (move g n lim c) (sym h) ∙ q) s.first_half; moved = s.moved }

module _ (g : List Production) (n lim lim' : ℕ) (more : lim ≤ lim') where
  -- a higher limit allows all that a lower one does
  pub wider : (c : Control) (x : Event) (bs : List Act) (c' : Control) → move g n lim c x ≡ go bs c' → move g n lim' c x ≡ go bs c'
  wider before (starts none) bs c' e = e
  wider before (starts (some t)) bs c' e = e
  wider before (ends t) bs c' e = e
  wider before (letter x) bs c' e = e
  wider (inside o os) (starts none) bs c' e = e
  wider (inside o os) (starts (some t)) bs c' e =
      let d = started g lim o os n t bs c' e in
      let w : Way = d.by in
      let room : suc (suc (length os)) ≤ lim = d.room in
      let row : List Act = bracket_acts o.production w.string ++ start_tag d.production ∷ [] in
      let to : Control = inside (at_start d.production) (at_place_lem o w.place ∷ os) in
      let l : leb (suc (suc (length os))) lim' ≡ true = le-leb (suc (suc (length os))) lim' (omega arith) in
      ap (start_by g lim' o os t) d.is_way
      ∙ ap (λ (k : Atom). start_at lim' o os w (production_for g k t)) d.is_kind
      ∙ ap (start_at lim' o os w) d.is_found
      ∙ ap (λ (b : Bool). opening_up b row to) l
      ∙ (λ i. go (sym d.are_acts i) (sym d.is_control i))
  wider (inside o os) (ends t) bs c' e = e
  wider (inside o os) (letter x) bs c' e = e
  wider after x bs c' e = e

  pub moves_wider : {c c' : Control} {xs : List Event} {bs : List Act} → Moves g n lim c xs bs c' → Moves g n lim' c xs bs c'
  moves_wider stay = stay
  moves_wider {c} (then {c' = c'} x bs e r) = then x bs (wider c x bs c' e) (moves_wider r)

  -- of the refusals only 24 depends on the limit
  pub same_refusal : (k : ℕ) → (k ≡ 24 → ⊥) → (c : Control) (x : Event) → move g n lim c x ≡ refuse k → move g n lim' c x ≡ refuse k
  same_refusal k d before (starts none) e = e
  same_refusal k d before (starts (some t)) e = e
  same_refusal k d before (ends t) e = e
  same_refusal k d before (letter x) e = e
  same_refusal k d (inside o os) (starts none) e = e
  same_refusal k d (inside o os) (starts (some t)) e = by_way (atom_way (tags_of g) (content_of g o.production) o.place (tag t)) e
    where
      by_room : (b b' : Bool) (row : List Act) (to : Control) → opening_up b row to ≡ refuse k → opening_up b' row to ≡ refuse k
      by_room true b' row to e = absurd (let z : ◌≡◌ {A = ℕ} 0 1 = cc in omega arith)
      by_room false b' row to e = let z : 24 ≡ k = cc in absurd (d (sym z))

      by_found : (w : Way) (f : Option ℕ) → start_at lim o os w f ≡ refuse k → start_at lim' o os w f ≡ refuse k
      by_found w none e = e
      by_found w (some q) e = by_room (leb (suc (suc (length os))) lim) (leb (suc (suc (length os))) lim') _ _ e

      by_way : (f : Option Way) → start_by g lim o os t f ≡ refuse k → start_by g lim' o os t f ≡ refuse k
      by_way none e = e
      by_way (some w) e = by_found w (production_for g w.kind t) e
  same_refusal k d (inside o os) (ends t) e = e
  same_refusal k d (inside o os) (letter x) e = e
  same_refusal k d after x e = e
