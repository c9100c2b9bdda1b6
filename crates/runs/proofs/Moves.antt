-- Runs of the control, and what a run of the machine is in terms of them: the control says which acts the events ask for, whatever the store, and the
-- machine does those acts; so a run of the machine is a run of the control with its acts done.
-- Assumes nothing.
use mathlib.Core.Path.{◌≡◌, refl, sym, ◌∙◌, ap, subst}
use mathlib.Core.List.{List, [], ◌∷◌, ◌++◌, append_assoc}
use mathlib.Core.Option.{Option, none, some}
use Prim.Native.Nat.{ℕ}
use native.Mathlib.Omega.{arith}
use Rattle.expressions.specs.Grammar.{Production}
use Rattle.sheet.specs.Sheet.{Sheet}
use Rattle.runs.specs.Options.{bind}
use Rattle.runs.specs.Events.{Event}
use Rattle.runs.specs.Acts.{Act, Store, acts}
use Rattle.runs.specs.Machine.{Control, Turn, refuse, go, move, most, Configuration, took, refused, acted, turned, Outcome, finished, stopped, onward, answered, run}
use Rattle.runs.specs.Visits.{grammar}
use Rattle.runs.proofs.Line.{acts_append}

-- the control goes over the events to another control, and these are the acts
pub data Moves (g : List Production) (n lim : ℕ) : Control → List Event → List Act → Control → Type 0 where
  stay : {c : Control} → Moves g n lim c [] [] c
  then : {c c' c'' : Control} {xs : List Event} {cs : List Act} (x : Event) (bs : List Act) → move g n lim c x ≡ go bs c' → Moves g n lim c' xs cs c'' →
      Moves g n lim c (x ∷ xs) (bs ++ cs) c''

-- a refusal is no move
pub refuse_go : {X : Type 0} {k : ℕ} (bs : List Act) (c : Control) → refuse k ≡ go bs c → X
refuse_go bs c e = absurd (let z : ◌≡◌ {A = ℕ} 0 1 = cc in omega arith)

pub go_inj : (bs bs' : List Act) (c c' : Control) → go bs c ≡ go bs' c' → (bs ≡ bs') × (c ≡ c')
go_inj bs bs' c c' e = ((cc), (cc))

module _ {g : List Production} {n lim : ℕ} where
  pub moves_append : {c c' c'' : Control} {xs ys : List Event} {bs cs : List Act} → Moves g n lim c xs bs c' → Moves g n lim c' ys cs c'' →
      Moves g n lim c (xs ++ ys) (bs ++ cs) c''
  moves_append stay m = m
  moves_append {c} {c'} {c''} {xs} {ys} {bs} {cs} (then {xs = xs'} {cs = cs'} x bs' e r) m =
      subst (λ (z : List Act). Moves g n lim c (x ∷ (xs' ++ ys)) z c'') (sym (append_assoc bs' cs' cs)) (then x bs' e (moves_append r m))

  -- the acts and the control after are the only ones
  pub moves_one : {c : Control} {xs : List Event} {bs bs' : List Act} {c' c'' : Control} → Moves g n lim c xs bs c' → Moves g n lim c xs bs' c'' →
      (bs ≡ bs') × (c' ≡ c'')
  moves_one stay stay = (refl, refl)
  moves_one (then {c' = d} {c'' = e} {xs = xs} {cs = cs} x bs q r) (then {c' = d'} {c'' = e'} {cs = cs'} x' bs' q' r') =
      let i = go_inj bs bs' d d' (sym q ∙ q') in
      let j = moves_one r (subst (λ (z : Control). Moves g n lim z xs cs' e') (sym i.1) r') in
      let a : bs ≡ bs' = i.0 in
      let b : cs ≡ cs' = j.0 in
      ((cc), j.1)

-- the machine does the acts of the control's run
pub run_moves : (s : Sheet) {c c' : Control} {xs : List Event} {bs : List Act} → Moves (grammar s) s.start_nonterminal most c xs bs c' → (m : Store) →
    answered (run s (record { control = c; store = m }) xs) ≡ acted c' (acts s bs m)
run_moves s stay m = refl
run_moves s {c} {c'} (then {c' = d} {xs = xs} {cs = cs} x bs e r) m =
    ap (λ (u : Turn). answered (onward (record { control = c; store = m }) (x ∷ xs) (turned s m u) (λ z. run s z xs))) e
    ∙ here (λ m'. run_moves s r m') (acts s bs m)
    ∙ ap (acted c') (sym (acts_append s bs cs m))
  where
    here : ((m' : Store) → answered (run s (record { control = d; store = m' }) xs) ≡ acted c' (acts s cs m')) → (o : Option Store) →
        answered (onward (record { control = c; store = m }) (x ∷ xs) (acted d o) (λ z. run s z xs)) ≡ acted c' (bind o (λ m'. acts s cs m'))
    here f none = refl
    here f (some m') = f m'

pub run_through : (o : Outcome) (z : Configuration) → answered o ≡ took z → o ≡ finished z
run_through (finished z') z e = let h : z' ≡ z = cc in ap finished h
run_through (stopped k z' xs) z e = absurd (let y : ◌≡◌ {A = ℕ} 0 1 = cc in omega arith)

pub run_stops : (o : Outcome) (k : ℕ) → answered o ≡ refused k → (z : Configuration) × (xs : List Event) × (o ≡ stopped k z xs)
run_stops (finished z') k e = absurd (let y : ◌≡◌ {A = ℕ} 0 1 = cc in omega arith)
run_stops (stopped k' z xs) k e = let h : k' ≡ k = cc in (z, xs, ap (λ (j : ℕ). stopped j z xs) h)

-- a run that takes all its events is a run of the control
pub record Taken (s : Sheet) (c : Control) (m : Store) (xs : List Event) (z : Configuration) : Type 0 where
  pub row : List Act
  pub moved : Moves (grammar s) s.start_nonterminal most c xs row z.control
  pub done : acts s row m ≡ some z.store

pub moves_run : (s : Sheet) (c : Control) (m : Store) (xs : List Event) (z : Configuration) → run s (record { control = c; store = m }) xs ≡ finished z → Taken s c m xs z
moves_run s c m [] z e =
    let h : record { control = c; store = m } ≡ z = cc in
    subst (λ (y : Configuration). Taken s c m [] y) h (record { row = []; moved = stay; done = refl })
moves_run s c m (x ∷ xs) z e = by_turn (λ c' m' e'. moves_run s c' m' xs z e') (move (grammar s) s.start_nonterminal most c x) refl e
  where
    by_store : ((c' : Control) (m' : Store) → run s (record { control = c'; store = m' }) xs ≡ finished z → Taken s c' m' xs z) →
        (bs : List Act) (c' : Control) → move (grammar s) s.start_nonterminal most c x ≡ go bs c' → (o : Option Store) → acts s bs m ≡ o →
        onward (record { control = c; store = m }) (x ∷ xs) (acted c' o) (λ y. run s y xs) ≡ finished z → Taken s c m (x ∷ xs) z
    by_store later bs c' q none k e = absurd (let y : ◌≡◌ {A = ℕ} 0 1 = cc in omega arith)
    by_store later bs c' q (some m') k e =
        let t = later c' m' e in
        record {
          row = bs ++ t.row;
          moved = then x bs q t.moved;
          done = acts_append s bs t.row m ∙ ap (λ (o : Option Store). bind o (λ m''. acts s t.row m'')) k ∙ t.done;
        }

    by_turn : ((c' : Control) (m' : Store) → run s (record { control = c'; store = m' }) xs ≡ finished z → Taken s c' m' xs z) →
        (u : Turn) → move (grammar s) s.start_nonterminal most c x ≡ u →
        onward (record { control = c; store = m }) (x ∷ xs) (turned s m u) (λ y. run s y xs) ≡ finished z → Taken s c m (x ∷ xs) z
    by_turn later (refuse k) q e = absurd (let y : ◌≡◌ {A = ℕ} 0 1 = cc in omega arith)
    by_turn later (go bs c') q e = by_store later bs c' q (acts s bs m) refl e
