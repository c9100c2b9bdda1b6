-- What acts do does not depend on the output before them: they only add to it. So a run may be looked at from any point on with no output before it.
-- Assumes nothing.
use mathlib.Core.Path.{◌≡◌, refl, ◌∙◌, ap}
use mathlib.Core.List.{List, [], ◌∷◌, append_assoc}
use mathlib.Core.Option.{Option, none, some}
use Prim.Native.Nat.{ℕ}
use Rattle.programs.specs.Program.{Program}
use Rattle.output.specs.Escape.{Piece, start, end, character}
use Rattle.sheet.specs.Sheet.{Sheet}
use Rattle.runs.specs.Options.{bind}
use Rattle.runs.specs.Execute.{Effect}
use Rattle.runs.specs.Visits.{Env, Saved, saved, programs_of, tag_name, performed, visited, visit, while_on, echoed, returned, opens, revisits, closes, enters, leaves, reads, behind}
use Rattle.runs.specs.Acts.{Act, node_first, node_second, start_tag, end_tag, letter_read, Store, with_node, innermost, without_node, without_element, act, acts, store_behind}

abbrev env_behind : List Piece → Option Env → Option Env
env_behind o v = bind v (λ w. some (behind o w))

abbrev Frames : List Piece → (Env → Option Env) → Type 0
Frames o f = (v : Env) → f (behind o v) ≡ env_behind o (f v)

module _ (s : Sheet) (o : List Piece) where
  visited_frame : (v : Env) (x : Effect) → visited (behind o v) x ≡ behind o (visited v x)
  visited_frame v x = λ i. record { values = x.values; echo = x.echo; out = append_assoc o v.out x.printed i; count = (visited v x).count }

  visit_frame : (k : List ℕ) (p : Option Program) → Frames o (visit s k p)
  visit_frame k p v = by (performed s k p v.values v.echo)
    where
      by : (e : Option Effect) → bind e (λ x. some (visited (behind o v) x)) ≡ env_behind o (bind e (λ x. some (visited v x)))
      by none = refl
      by (some x) = ap some (visited_frame v x)

  echoed_frame : (p : Piece) (v : Env) → echoed p (behind o v) ≡ behind o (echoed p v)
  echoed_frame p v = λ i. record { values = v.values; echo = v.echo; out = append_assoc o v.out (while_on v.echo p) i; count = v.count }

  -- a visit, then something that frames
  then_frame : (f : Env → Option Env) (h : Env → Env) → Frames o f → ((x : Env) → h (behind o x) ≡ behind o (h x)) → Frames o (λ v. bind (f v) (λ x. some (h x)))
  then_frame f h F H v = ap (λ (e : Option Env). bind e (λ x. some (h x))) (F v) ∙ by (f v)
    where
      by : (e : Option Env) → bind (env_behind o e) (λ x. some (h x)) ≡ env_behind o (bind e (λ x. some (h x)))
      by none = refl
      by (some x) = ap some (H x)

  closes_frame : (q i : ℕ) (k : Saved) → Frames o (closes s q i k)
  closes_frame q i k = then_frame (revisits s q i k) (returned k.echo) (visit_frame k.values (programs_of s.rules q i).second_visit) (λ x. refl)

  enters_frame : (q : ℕ) → Frames o (enters s q)
  enters_frame q = then_frame (opens s q 0) (echoed (start (tag_name s q))) (visit_frame [] (programs_of s.rules q 0).first_visit) (echoed_frame (start (tag_name s q)))

  leaves_frame : (q : ℕ) (k : Saved) → Frames o (leaves s q k)
  leaves_frame q k =
      then_frame (revisits s q 0 k) (λ x. returned k.echo (echoed (end (tag_name s q)) x)) (visit_frame k.values (programs_of s.rules q 0).second_visit)
      (λ x. ap (returned k.echo) (echoed_frame (end (tag_name s q)) x))

  -- the store with what is kept, which does not look at the output
  store_frame : (f : Env → Option Env) (kept : Env → List (List Saved)) → Frames o f → ((x : Env) → kept (behind o x) ≡ kept x) → (v : Env) →
      bind (f (behind o v)) (λ w. some (record { kept = kept w; env = w })) ≡ bind (bind (f v) (λ w. some (record { kept = kept w; env = w }))) (λ m. some (store_behind o m))
  store_frame f kept F K v = ap (λ (e : Option Env). bind e (λ w. some (record { kept = kept w; env = w }))) (F v) ∙ by (f v)
    where
      by : (e : Option Env) → bind (env_behind o e) (λ w. some (record { kept = kept w; env = w }))
          ≡ bind (bind e (λ w. some (record { kept = kept w; env = w }))) (λ m. some (store_behind o m))
      by none = refl
      by (some x) = λ i. some (record { kept = K x i; env = behind o x })

  act_frame : (a : Act) (m : Store) → act s a (store_behind o m) ≡ bind (act s a m) (λ m'. some (store_behind o m'))
  act_frame (node_first q i) m =
      store_frame (opens s q i) (λ w. with_node (saved m.env w) m.kept) (visit_frame [] (programs_of s.rules q i).first_visit) (λ x. refl) m.env
  act_frame (node_second q i) m =
      store_frame (closes s q i (innermost m.kept)) (λ w. without_node m.kept) (closes_frame q i (innermost m.kept)) (λ x. refl) m.env
  act_frame (start_tag q) m = store_frame (enters s q) (λ w. (saved m.env w ∷ []) ∷ m.kept) (enters_frame q) (λ x. refl) m.env
  act_frame (end_tag q) m =
      store_frame (leaves s q (innermost m.kept)) (λ w. without_element m.kept) (leaves_frame q (innermost m.kept)) (λ x. refl) m.env
  act_frame (letter_read c) m = store_frame (reads s c) (λ w. m.kept) (λ v. ap some (echoed_frame (character c) v)) (λ x. refl) m.env

pub acts_frame : (s : Sheet) (o : List Piece) (bs : List Act) (m : Store) → acts s bs (store_behind o m) ≡ bind (acts s bs m) (λ m'. some (store_behind o m'))
acts_frame s o [] m = refl
acts_frame s o (a ∷ bs) m = ap (λ (e : Option Store). bind e (λ x. acts s bs x)) (act_frame s o a m) ∙ by (λ x. acts_frame s o bs x) (act s a m)
  where
    by : ((x : Store) → acts s bs (store_behind o x) ≡ bind (acts s bs x) (λ m'. some (store_behind o m'))) → (e : Option Store) →
        bind (bind e (λ x. some (store_behind o x))) (λ x. acts s bs x) ≡ bind (bind e (λ x. acts s bs x)) (λ m'. some (store_behind o m'))
    by f none = refl
    by f (some x) = f x
