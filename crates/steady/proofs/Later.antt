-- What acts do does not depend on the count of visits before them: they only add to it. So a run may be looked at from any count on.
-- Assumes nothing.
use mathlib.Core.Path.{◌≡◌, refl, ◌∙◌, ap}
use mathlib.Core.List.{List, [], ◌∷◌}
use mathlib.Core.Option.{Option, none, some}
use Prim.Native.Nat.{ℕ, suc, ◌+◌}
use native.Mathlib.Omega.{arith}
use Rattle.programs.specs.Program.{Program}
use Rattle.output.specs.Escape.{Piece, start, end, character}
use Rattle.sheet.specs.Sheet.{Sheet}
use Rattle.runs.specs.Options.{bind}
use Rattle.runs.specs.Execute.{Effect}
use Rattle.runs.specs.Visits.{Env, Saved, saved, programs_of, tag_name, performed, visited, visit, echoed, returned, opens, revisits, closes, enters, leaves, reads}
use Rattle.runs.specs.Acts.{Act, node_first, node_second, start_tag, end_tag, letter_read, Store, with_node, innermost, without_node, without_element, act, acts}

-- the same n visits later
abbrev pub later : ℕ → Env → Env
later n v = record { values = v.values; echo = v.echo; out = v.out; count = n + v.count }

abbrev pub store_later : ℕ → Store → Store
store_later n m = record { kept = m.kept; env = later n m.env }

abbrev env_later : ℕ → Option Env → Option Env
env_later n v = bind v (λ w. some (later n w))

abbrev Lates : ℕ → (Env → Option Env) → Type 0
Lates n f = (v : Env) → f (later n v) ≡ env_later n (f v)

module _ (s : Sheet) (n : ℕ) where
  visited_later : (v : Env) (x : Effect) → visited (later n v) x ≡ later n (visited v x)
  visited_later v x = let p : suc (n + v.count) ≡ n + suc v.count = omega arith in ap (λ (j : ℕ). record { values = x.values; echo = x.echo; out = (visited v x).out; count = j }) p

  visit_later : (k : List ℕ) (p : Option Program) → Lates n (visit s k p)
  visit_later k p v = by (performed s k p v.values v.echo)
    where
      by : (e : Option Effect) → bind e (λ x. some (visited (later n v) x)) ≡ env_later n (bind e (λ x. some (visited v x)))
      by none = refl
      by (some x) = ap some (visited_later v x)

  -- a visit, then something that does not look at the count
  then_later : (f : Env → Option Env) (h : Env → Env) → Lates n f → ((x : Env) → h (later n x) ≡ later n (h x)) → Lates n (λ v. bind (f v) (λ x. some (h x)))
  then_later f h F H v = ap (λ (e : Option Env). bind e (λ x. some (h x))) (F v) ∙ by (f v)
    where
      by : (e : Option Env) → bind (env_later n e) (λ x. some (h x)) ≡ env_later n (bind e (λ x. some (h x)))
      by none = refl
      by (some x) = ap some (H x)

  closes_later : (q i : ℕ) (k : Saved) → Lates n (closes s q i k)
  closes_later q i k = then_later (revisits s q i k) (returned k.echo) (visit_later k.values (programs_of s.rules q i).second_visit) (λ x. refl)

  enters_later : (q : ℕ) → Lates n (enters s q)
  enters_later q = then_later (opens s q 0) (echoed (start (tag_name s q))) (visit_later [] (programs_of s.rules q 0).first_visit) (λ x. refl)

  leaves_later : (q : ℕ) (k : Saved) → Lates n (leaves s q k)
  leaves_later q k =
      then_later (revisits s q 0 k) (λ x. returned k.echo (echoed (end (tag_name s q)) x)) (visit_later k.values (programs_of s.rules q 0).second_visit) (λ x. refl)

  -- the store with what is kept, which does not look at the count
  store_late : (f : Env → Option Env) (kept : Env → List (List Saved)) → Lates n f → ((x : Env) → kept (later n x) ≡ kept x) → (v : Env) →
      bind (f (later n v)) (λ w. some (record { kept = kept w; env = w })) ≡ bind (bind (f v) (λ w. some (record { kept = kept w; env = w }))) (λ m. some (store_later n m))
  store_late f kept F K v = ap (λ (e : Option Env). bind e (λ w. some (record { kept = kept w; env = w }))) (F v) ∙ by (f v)
    where
      by : (e : Option Env) → bind (env_later n e) (λ w. some (record { kept = kept w; env = w }))
          ≡ bind (bind e (λ w. some (record { kept = kept w; env = w }))) (λ m. some (store_later n m))
      by none = refl
      by (some x) = λ i. some (record { kept = K x i; env = later n x })

  act_later : (a : Act) (m : Store) → act s a (store_later n m) ≡ bind (act s a m) (λ m'. some (store_later n m'))
  act_later (node_first q i) m =
      store_late (opens s q i) (λ w. with_node (saved m.env w) m.kept) (visit_later [] (programs_of s.rules q i).first_visit) (λ x. refl) m.env
  act_later (node_second q i) m =
      store_late (closes s q i (innermost m.kept)) (λ w. without_node m.kept) (closes_later q i (innermost m.kept)) (λ x. refl) m.env
  act_later (start_tag q) m = store_late (enters s q) (λ w. (saved m.env w ∷ []) ∷ m.kept) (enters_later q) (λ x. refl) m.env
  act_later (end_tag q) m =
      store_late (leaves s q (innermost m.kept)) (λ w. without_element m.kept) (leaves_later q (innermost m.kept)) (λ x. refl) m.env
  act_later (letter_read c) m = store_late (reads s c) (λ w. m.kept) (λ v. refl) (λ x. refl) m.env

pub acts_later : (s : Sheet) (n : ℕ) (bs : List Act) (m : Store) → acts s bs (store_later n m) ≡ bind (acts s bs m) (λ m'. some (store_later n m'))
acts_later s n [] m = refl
acts_later s n (a ∷ bs) m = ap (λ (e : Option Store). bind e (λ x. acts s bs x)) (act_later s n a m) ∙ by (λ x. acts_later s n bs x) (act s a m)
  where
    by : ((x : Store) → acts s bs (store_later n x) ≡ bind (acts s bs x) (λ m'. some (store_later n m'))) → (e : Option Store) →
        bind (bind e (λ x. some (store_later n x))) (λ x. acts s bs x) ≡ bind (bind e (λ x. acts s bs x)) (λ m'. some (store_later n m'))
    by f none = refl
    by f (some x) = f x
