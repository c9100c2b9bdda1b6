-- Acts one after another, each from a state that holds no output: as acts do the same whatever output stands before them, what was written joins.
-- Assumes nothing.
use Rattle.std.specs.Prelude.{Option as Taken, Some, None}
use mathlib.Core.Path.{◌≡◌, refl, sym, ap, ◌∙◌, subst}
use mathlib.Core.List.{List, [], ◌∷◌, ◌++◌}
use mathlib.Core.Option.{Option, none, some, none-ne-some as none_some}
use Prim.Native.Nat.{ℕ}
use Rattle.lent.specs.Put.{PutAs}
use Rattle.output.specs.Escape.{Piece, render}
use Rattle.output.proofs.Writing.{put_then, same_bytes}
use Rattle.sheet.specs.Sheet.{Sheet}
use Rattle.visits.specs.Written.{Pen}
use Rattle.runs.specs.Options.{bind}
use Rattle.runs.specs.Acts.{Act, Store, act, acts, store_behind}
use Rattle.runs.specs.Events.{Event}
use Rattle.runs.specs.Machine.{Control, Configuration as Standing, Answer, took, refused, acted, step}
use Rattle.runs.proofs.Line.{acts_append}
use Rattle.runs.proofs.Frame.{acts_frame}
use Rattle.calls.specs.Limits.{silent}
use Rattle.calls.proofs.Frame.{answer_behind, step_frame}
use Rattle.calls.proofs.Steps.{out_of, behind_silent}
use Rattle.output.proofs.Writing.{render_append}
use Rattle.state.specs.Meaning.{meaning_of}
use Rattle.state.specs.declared.State.{State}
use Rattle.acts.specs.Acted.{Done, Comes}
use Rattle.acts.specs.Seen.{ActedSeen}
use Rattle.steps.specs.Seen.{SteppedSeen}
use Rattle.steps.specs.Stepped.{Took, StepAnswered}
use Rattle.steps.specs.Parts.{answering}

-- where writing goes on
abbrev pub on_pen : Pen → List ℕ → ℕ → Pen
on_pen p d at = record { write = p.write; lent = d; at = at }

written_on : (p : Pen) (o o' : List Piece) (d d' : List ℕ) (at at' : ℕ) → PutAs p.write p.lent p.at (render o) d at → PutAs p.write d at (render o') d' at' →
    PutAs p.write p.lent p.at (render (o ++ o')) d' at'
written_on p o o' d d' at at' x y =
    same_bytes p.write p.lent p.at (render o ++ render o') (render (o ++ o')) d' at' (sym (render_append o o'))
    (put_then p.write p.lent p.at (render o) (render o') d d' at at' x y)

-- acts, and then one more from the state that they left
module _ (a : Sheet) (bs : List Act) (x : Act) {c : Control} {z : State} {p : Pen} {r : ActedSeen} {d : List ℕ} (c' : Control) (r' : Taken ActedSeen) (d' : List ℕ) where
  pub join : (m : Store) → acts a bs (meaning_of z).store ≡ some m → Done c m z p r d →
      Comes (act a x (meaning_of r.state).store) c' r.state (on_pen p d r.at) r' d' → Comes (acts a (bs ++ x ∷ []) (meaning_of z).store) c' z p r' d'
  join m e D C =
      subst (λ (y : Option Store). Comes y c' z p r' d') (sym whole) (by (act a x quiet.store) r' (subst (λ (y : Standing). Comes (act a x y.store) c' r.state (on_pen p d r.at) r' d') D.means C))
    where
      full : Standing
      full = record { control = c; store = m }

      quiet : Standing
      quiet = silent full

      whole : acts a (bs ++ x ∷ []) (meaning_of z).store ≡ bind (acts a (x ∷ []) quiet.store) (λ m'. some (store_behind (out_of full) m'))
      whole =
          acts_append a bs (x ∷ []) (meaning_of z).store ∙ ap (λ (y : Option Store). bind y (λ m'. acts a (x ∷ []) m')) e
          ∙ ap (λ (y : Standing). acts a (x ∷ []) y.store) (behind_silent [] full) ∙ acts_frame a (out_of full) (x ∷ []) quiet.store

      by : (y : Option Store) (t : Taken ActedSeen) → Comes y c' r.state (on_pen p d r.at) t d' → Comes (bind (bind y (λ m''. some m'')) (λ m'. some (store_behind (out_of full) m'))) c' z p t d'
      by none None C = refl
      by none (Some t) C = C
      by (some m') None C = absurd (none_some m' (sym C))
      by (some m') (Some t) C =
          record {
            means = C.means;
            shaped = C.shaped;
            closed = C.closed ∙ D.closed;
            written = written_on p (out_of full) m'.env.out d d' r.at t.at D.written C.written;
          }

-- as the machine answers it
pub answered_as : (c : Control) (o : Option Store) (z : State) (p : Pen) (r : Taken ActedSeen) (d : List ℕ) → Comes o c z p r d → StepAnswered (acted c o) z p (answering z p.at r) d
answered_as c o z p None d C = subst (λ (y : Option Store). StepAnswered (acted c y) z p (answering z p.at None) d) (sym C) refl
answered_as c none z p (Some r) d C = absurd C
answered_as c (some m) z p (Some r) d C = record { number = refl; means = C.means; shaped = C.shaped; closed = C.closed; written = C.written }

-- an event, and then another one from the state that it left
module _ (a : Sheet) {z : State} {p : Pen} {r : SteppedSeen} {d : List ℕ} (r' : SteppedSeen) (d' : List ℕ) where
  pub join_events : (m : Standing) → Took m z p r d → (x : Event) → StepAnswered (step a (meaning_of r.state) x) r.state (on_pen p d r.at) r' d' →
      StepAnswered (step a m x) z p r' d'
  join_events m K x A =
      subst (λ (y : Answer). StepAnswered y z p r' d') (sym whole) (by (step a (silent m) x) (subst (λ (y : Standing). StepAnswered (step a y x) r.state (on_pen p d r.at) r' d') K.means A))
    where
      whole : step a m x ≡ answer_behind (out_of m) (step a (silent m) x)
      whole = ap (λ (y : Standing). step a y x) (behind_silent [] m) ∙ step_frame a (out_of m) (silent m) x

      by : (y : Answer) → StepAnswered y r.state (on_pen p d r.at) r' d' → StepAnswered (answer_behind (out_of m) y) z p r' d'
      by (refused n) A = A
      by (took m') A =
          record {
            number = A.number;
            means = A.means;
            shaped = A.shaped;
            closed = A.closed ∙ K.closed;
            written = written_on p (out_of m) (out_of m') d d' r.at r'.at K.written A.written;
          }
