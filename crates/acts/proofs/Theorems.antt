-- Each contract pins one answer: of any two, both go on or both reject; where they go on, offset, meaning of the state, closing number and memory
-- are the same, and in a dry run the memory always is. All four from one law: what comes of given acts.
-- Assumes nothing.
use Rattle.std.specs.Prelude.{Option as Taken, Some, None, IsSome}
use mathlib.Core.Path.{◌≡◌, refl, sym, ◌∙◌}
use mathlib.Core.Bool.{false, true≢false}
use mathlib.Core.List.{List}
use mathlib.Core.Logic.{◌⊎◌, ⊎_elim}
use mathlib.Core.Option.{Option, none, some, none-ne-some as none_some}
use Prim.Native.Nat.{ℕ, suc, ◌<◌}
use lib.ListN.{length}
use Rattle.expressions.specs.Words.{Bracket}
use Rattle.sheet.specs.Sheet.{Sheet, IsSheet}
use Rattle.output.specs.Escape.{render}
use Rattle.output.proofs.Writing.{put_one_outcome}
use Rattle.runs.specs.Acts.{start_tag, end_tag, letter_read, bracket_acts, Store, act, acts}
use Rattle.runs.specs.Machine.{Open, Control, inside, outer, at_start, most}
use Rattle.runs.specs.Nodes.{through_nodes}
use Rattle.state.specs.Changes.{top_of}
use Rattle.state.specs.Meaning.{meaning_of, opens_of, Shaped}
use Rattle.state.specs.declared.State.{State}
use Rattle.visits.specs.Written.{Pen}
use Rattle.ways.specs.Held.{codes}
use Rattle.acts.specs.Seen.{ActedSeen}
use Rattle.acts.specs.Acted.{Comes, BracketsAs, EntersAs, LeavesAs, ReadsAs}

-- of two that went on
pub record AgreeOn (r t : ActedSeen) : Type 0 where
  pub at : r.at ≡ t.at
  pub means : meaning_of r.state ≡ meaning_of t.state
  pub closed : r.state.closed ≡ t.state.closed

abbrev pub Alike : Taken ActedSeen → Taken ActedSeen → Type 0
Alike None t = t ≡ None
Alike (Some r) None = ⊥
Alike (Some r) (Some t) = AgreeOn r t

pub record Agree (p : Pen) (r t : Taken ActedSeen) (d e : List ℕ) : Type 0 where
  pub alike : Alike r t
  pub memory : (p.write ≡ false) ⊎ IsSome r → d ≡ e

one_outcome : (z : State) (p : Pen) (r t : Taken ActedSeen) (d e : List ℕ) (o : Option Store) (c : Control) → (p.write ≡ false → d ≡ p.lent) → (p.write ≡ false → e ≡ p.lent) → Comes o c z p r d → Comes o c z p t e → Agree p r t d e
one_outcome z p None None d e o c f g x y = record { alike = refl; memory = λ u. ⊎_elim (λ w. f w ∙ sym (g w)) (λ w. absurd (true≢false (sym w))) u }
one_outcome z p None (Some t) d e none c f g x y = absurd y
one_outcome z p None (Some t) d e (some m) c f g x y = absurd (none_some m (sym x))
one_outcome z p (Some r) t d e none c f g x y = absurd x
one_outcome z p (Some r) None d e (some m) c f g x y = absurd (none_some m (sym y))
one_outcome z p (Some r) (Some t) d e (some m) c f g x y =
    let w = put_one_outcome p.write p.lent p.at (render m.env.out) d e r.at t.at x.written y.written in
    record { alike = record { at = w.1; means = x.means ∙ sym y.means; closed = x.closed ∙ sym y.closed }; memory = λ u. w.0 }

module _ (z : State) (p : Pen) (r t : Taken ActedSeen) (d e : List ℕ) where
  module _ (s : List ℕ) (q : ℕ) (a : Sheet) (y : IsSheet s a) (h : Shaped z) where
    pub one_answer_enter : EntersAs s q z p r d → EntersAs s q z p t e → z.depth < most → Agree p r t d e
    one_answer_enter R T deep = one_outcome z p r t d e (act a (start_tag q) (meaning_of z).store) (inside (at_start q) (opens_of (meaning_of z).control)) R.dry T.dry (R.right a y h deep) (T.right a y h deep)

    module _ (o : Open) (os : List Open) (k : (meaning_of z).control ≡ inside o os) where
      pub one_answer_leave : LeavesAs s q z p r d → LeavesAs s q z p t e → 0 < (top_of z).«open» → Agree p r t d e
      one_answer_leave R T n = one_outcome z p r t d e (act a (end_tag q) (meaning_of z).store) (outer os) R.dry T.dry (R.right a y h o os k n) (T.right a y h o os k n)

      pub one_answer_brackets : (line : List ℕ) → BracketsAs s q line z p r d → BracketsAs s q line z p t e → (α : List Bracket) → line ≡ codes α →
          (ns ns' : List ℕ) → through_nodes 12 α ns ≡ some ns' → (top_of z).«open» ≡ suc (length ns) → Agree p r t d e
      one_answer_brackets line R T α l ns ns' w n =
          one_outcome z p r t d e (acts a (bracket_acts q α) (meaning_of z).store) (meaning_of z).control R.dry T.dry (R.right a y α l h o os k ns ns' w n) (T.right a y α l h o os k ns ns' w n)

-- a character needs no sheet
pub one_answer_read : (z : State) (p : Pen) (r t : ActedSeen) (d e : List ℕ) (a : Sheet) (c : ℕ) → Shaped z → ReadsAs c z p r d → ReadsAs c z p t e → Agree p (Some r) (Some t) d e
one_answer_read z p r t d e a c h R T = one_outcome z p (Some r) (Some t) d e (act a (letter_read c) (meaning_of z).store) (meaning_of z).control R.dry T.dry (R.right a h) (T.right a h)
