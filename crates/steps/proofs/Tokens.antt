-- A token, one law for each return of its function: one event, or none where white space passes, or a start tag's and an end tag's together, the
-- second of which sets out from a state that holds no output.
-- Assumes nothing.
use mathlib.Core.Path.{◌≡◌, refl, sym, ap, ◌∙◌, subst}
use mathlib.Core.Bool.{Bool, true, false, cond, ◌&&◌}
use mathlib.Core.List.{List, [], ◌∷◌}
use mathlib.Core.Option.{Option, none, some}
use Prim.Native.Nat.{ℕ, ◌+◌, ◌-◌, ◌<◌}
use native.Mathlib.Omega.{arith}
use lib.ListN.{take, drop}
use Rattle.std.specs.Prelude.{Option as Answered}
use Rattle.lent.proofs.Laws.{put_none}
use Rattle.text.specs.Names.{blank}
use Rattle.tokens.specs.declared.Event.{Event as Read}
use Rattle.tokens.specs.declared.Event.TheVariants.{Start, End, Empty, Character}
use Rattle.sheet.specs.Sheet.{Sheet, IsSheet}
use Rattle.visits.specs.Written.{Pen}
use Rattle.runs.specs.Visits.{grammar}
use Rattle.runs.specs.Events.{Event, starts, ends, letter}
use Rattle.runs.specs.Fits.{EventsFit}
use Rattle.runs.specs.Machine.{before, after, Configuration as Standing, Answer, took, refused, step, finished, onward, answered, run}
use Rattle.runs.specs.Spells.{empty_token, passes_at, unless_blank, step_token}
use Rattle.runs.proofs.SheetFits.{sheet_fits}
use Rattle.calls.specs.Names.{tag_named, character_token}
use Rattle.calls.proofs.Frame.{step_number}
use Rattle.fit.specs.RunFits.{RunFits}
use Rattle.fit.proofs.Steps.{step_fits, silent_fits}
use Rattle.lookups.specs.Found.{answer_of, TagFound, BlanksTold}
use Rattle.state.specs.declared.State.{State}
use Rattle.state.specs.Changes.{top_of}
use Rattle.state.specs.Meaning.{meaning_of, Shaped}
use Rattle.steps.specs.Seen.{SteppedSeen}
use Rattle.steps.specs.Stepped.{Took, StepAnswered, tag_in, SteppedAs, TokenAs}
use Rattle.steps.specs.Parts.{RunReady, PassesAs, OneTokenAs}
use Rattle.steps.proofs.Joined.{on_pen, join_events}
use Rattle.steps.proofs.Places.{outside, inside_at}
use Rattle.steps.proofs.Turns.{refused_at}

-- no event
untouched : (z : State) (p : Pen) → Shaped z → Took (meaning_of z) z p (refused_at 0 z p) p.lent
unfolding meaning_of
untouched z p h =
    record {
      number = refl;
      means = refl;
      shaped = h;
      closed = refl;
      written = record { next = omega arith; left = sym (put_none p.write p.lent p.at) };
    }

-- one event
alone : (m : Standing) (xs : List Event) (y : Answer) → answered (onward m xs y (λ z. finished z)) ≡ y
alone m xs (took z) = refl
alone m xs (refused n) = refl

-- a name's tag as it was looked up
tag_back : (o : Option ℕ) → tag_in (answer_of o) ≡ o
tag_back none = refl
tag_back (some t) = refl

pub tag_there : {s : List ℕ} {a : Sheet} → IsSheet s a → (part : List ℕ) (from len : ℕ) {name : List ℕ} → name ≡ take len (drop from part) → {t : Answered ℕ} → TagFound s name t →
    tag_in t ≡ tag_named a.names (take len (drop from part))
tag_there {s} {a} i part from len {name} e T = ap tag_in (T.is a i) ∙ tag_back (tag_named a.names name) ∙ ap (tag_named a.names) e

-- where it went on, the machine took it, and the state is of a run that fits the sheet
module _ {s : List ℕ} {x : Event} {z : State} {p : Pen} {r : SteppedSeen} {d : List ℕ} (S : SteppedAs s x z p r d) where
  pub went_took : (a : Sheet) → IsSheet s a → Shaped z → RunFits a (meaning_of z) → r.number ≡ 0 → (m : Standing) × (step a (meaning_of z) x ≡ took m) × Took m z p r d
  went_took a i h f e = by (step a (meaning_of z) x) refl (S.right a i h f)
    where
      by : (y : Answer) → step a (meaning_of z) x ≡ y → StepAnswered y z p r d → (m : Standing) × (y ≡ took m) × Took m z p r d
      by (took m) q A = (m, refl, A)
      by (refused n) q A = absurd (omega (arith, (step_number a (meaning_of z) x n q).0, A, e))

  pub stopped_refused : (a : Sheet) → IsSheet s a → Shaped z → RunFits a (meaning_of z) → (r.number ≡ 0 → ⊥) → step a (meaning_of z) x ≡ refused r.number
  stopped_refused a i h f e = by (step a (meaning_of z) x) (S.right a i h f)
    where
      by : (y : Answer) → StepAnswered y z p r d → y ≡ refused r.number
      by (took m) A = absurd (e A.number)
      by (refused n) A = ap refused (sym A)

  pub fits_on : (a : Sheet) → IsSheet s a → Shaped z → RunFits a (meaning_of z) → EventsFit (x ∷ []) → r.number ≡ 0 → Shaped r.state × RunFits a (meaning_of r.state)
  fits_on a i h f E e =
      let w = went_took a i h f e in
      (w.2.shaped, subst (RunFits a) (sym w.2.means) (silent_fits a w.0 (step_fits a (sheet_fits i) (meaning_of z) x w.0 E f w.1)))

  pub ready_on : RunReady s z → EventsFit (x ∷ []) → r.number ≡ 0 → RunReady s r.state
  ready_on y E e =
      let w = fits_on y.sheet y.is_sheet y.shaped y.fits E e in
      record { sheet = y.sheet; is_sheet = y.is_sheet; passed = y.passed; shaped = w.0; fits = w.1 }

module _ {s part : List ℕ} {z : State} {p : Pen} {r : SteppedSeen} {d : List ℕ} where
  -- tags
  module _ {from len : ℕ} {name : List ℕ} (named : name ≡ take len (drop from part)) {t : Answered ℕ} (T : TagFound s name t) where
    pub start_token : SteppedAs s (starts (tag_in t)) z p r d → TokenAs s part (Start from len) z p r d
    start_token S =
        record {
          reach = omega (arith, S.reach);
          count = omega (arith, S.count);
          dry = S.dry;
          right = λ a i h f.
              subst (λ (y : Answer). StepAnswered y z p r d)
              (ap (λ (o : Option ℕ). step a (meaning_of z) (starts o)) (tag_there i part from len named T) ∙ sym (alone (meaning_of z) (starts (tag_named a.names (take len (drop from part))) ∷ []) (step a (meaning_of z) (starts (tag_named a.names (take len (drop from part)))))))
              (S.right a i h f);
        }

    pub end_token : SteppedAs s (ends (tag_in t)) z p r d → TokenAs s part (End from len) z p r d
    end_token S =
        record {
          reach = omega (arith, S.reach);
          count = omega (arith, S.count);
          dry = S.dry;
          right = λ a i h f.
              subst (λ (y : Answer). StepAnswered y z p r d)
              (ap (λ (o : Option ℕ). step a (meaning_of z) (ends o)) (tag_there i part from len named T) ∙ sym (alone (meaning_of z) (ends (tag_named a.names (take len (drop from part))) ∷ []) (step a (meaning_of z) (ends (tag_named a.names (take len (drop from part)))))))
              (S.right a i h f);
        }

    pub empty_as : OneTokenAs s (empty_token (tag_in t)) z p r d → TokenAs s part (Empty from len) z p r d
    empty_as S =
        record {
          reach = S.reach;
          count = S.count;
          dry = S.dry;
          right = λ a i h f. subst (λ (o : Option ℕ). StepAnswered (step_token a (meaning_of z) (empty_token o)) z p r d) (tag_there i part from len named T) (S.right a i h f);
        }

  pub text_as : {c : ℕ} {l : Bool} → OneTokenAs s (character_token l c) z p r d → TokenAs s part (Character c l) z p r d
  text_as S = record { reach = S.reach; count = S.count; dry = S.dry; right = S.right }

-- an empty tag's two events
module _ {s : List ℕ} {z : State} {p : Pen} {r : SteppedSeen} {d : List ℕ} (t : Answered ℕ) where
  pub empty_stopped : SteppedAs s (starts (tag_in t)) z p r d → (r.number ≡ 0 → ⊥) → OneTokenAs s (empty_token (tag_in t)) z p r d
  empty_stopped S e =
      record {
        reach = omega (arith, S.reach);
        count = omega (arith, S.count);
        dry = S.dry;
        right = λ a i h f.
            subst (λ (y : Answer). StepAnswered y z p r d)
            (sym (ap (λ (y : Answer). answered (onward (meaning_of z) (starts (tag_in t) ∷ ends (tag_in t) ∷ []) y (λ m. run a m (ends (tag_in t) ∷ [])))) (stopped_refused S a i h f e)))
            refl;
      }

  pub empty_ended : (u : SteppedSeen) (mid : List ℕ) → SteppedAs s (starts (tag_in t)) z p u mid → u.number ≡ 0 → SteppedAs s (ends (tag_in t)) u.state (on_pen p mid u.at) r d →
      OneTokenAs s (empty_token (tag_in t)) z p r d
  empty_ended u mid S e E =
      record {
        reach = omega (arith, S.reach, E.reach);
        count = omega (arith, S.count, E.count);
        dry = λ k. E.dry k ∙ S.dry k;
        right = λ a i h f.
            let w = went_took S a i h f e in
            let g = fits_on S a i h f tt e in
            subst (λ (y : Answer). StepAnswered y z p r d)
            (sym (ap (λ (y : Answer). answered (onward (meaning_of z) (starts (tag_in t) ∷ ends (tag_in t) ∷ []) y (λ m. run a m (ends (tag_in t) ∷ [])))) w.1
            ∙ alone w.0 (ends (tag_in t) ∷ []) (step a w.0 (ends (tag_in t)))))
            (join_events a r d w.0 w.2 (ends (tag_in t)) (E.right a i g.0 g.1));
      }

-- a character, by whether it is white space that passes; by a reference it is none
char_turn : (a : Sheet) (z : State) (l : Bool) (c : ℕ) (b : Bool) → (l && blank c) && passes_at (grammar a) (meaning_of z).control ≡ b →
    step_token a (meaning_of z) (character_token l c) ≡ unless_blank b (meaning_of z) (step a (meaning_of z) (letter c))
char_turn a z true c b e =
    ap (λ (k : Bool). unless_blank k (meaning_of z) (answered (run a (meaning_of z) (letter c ∷ [])))) e
    ∙ ap (unless_blank b (meaning_of z)) (alone (meaning_of z) (letter c ∷ []) (step a (meaning_of z) (letter c)))
char_turn a z false c b e =
    ap (λ (k : Bool). unless_blank k (meaning_of z) (answered (run a (meaning_of z) (letter c ∷ [])))) e
    ∙ ap (unless_blank b (meaning_of z)) (alone (meaning_of z) (letter c ∷ []) (step a (meaning_of z) (letter c)))

module _ {s : List ℕ} {z : State} {p : Pen} {r : SteppedSeen} {d : List ℕ} (l : Bool) (c : ℕ) where
  pub blank_passes : PassesAs s z true → (l && blank c) ≡ true → r ≡ refused_at 0 z p → d ≡ p.lent → OneTokenAs s (character_token l c) z p r d
  blank_passes P w q same =
      subst (λ (y : List ℕ). OneTokenAs s (character_token l c) z p r y) (sym same) (subst (λ (y : SteppedSeen). OneTokenAs s (character_token l c) z p y p.lent) (sym q)
      (record {
        reach = omega arith;
        count = omega arith;
        dry = λ n. refl;
        right = λ a i h f.
            subst (λ (y : Answer). StepAnswered y z p (refused_at 0 z p) p.lent)
            (sym (char_turn a z l c true (ap (λ (b : Bool). b && passes_at (grammar a) (meaning_of z).control) w ∙ sym (P.is a i h f)))) (untouched z p h);
      }))

  is_read : ((a : Sheet) → IsSheet s a → Shaped z → RunFits a (meaning_of z) → (l && blank c) && passes_at (grammar a) (meaning_of z).control ≡ false) →
      SteppedAs s (letter c) z p r d → OneTokenAs s (character_token l c) z p r d
  is_read e S =
      record {
        reach = omega (arith, S.reach);
        count = omega (arith, S.count);
        dry = S.dry;
        right = λ a i h f. subst (λ (y : Answer). StepAnswered y z p r d) (sym (char_turn a z l c false (e a i h f))) (S.right a i h f);
      }

  pub not_blank : (l && blank c) ≡ false → SteppedAs s (letter c) z p r d → OneTokenAs s (character_token l c) z p r d
  not_blank w S = is_read (λ a i h f. ap (λ (b : Bool). b && passes_at (grammar a) (meaning_of z).control) w) S

  pub blank_read : PassesAs s z false → (l && blank c) ≡ true → SteppedAs s (letter c) z p r d → OneTokenAs s (character_token l c) z p r d
  blank_read P w S = is_read (λ a i h f. ap (λ (b : Bool). b && passes_at (grammar a) (meaning_of z).control) w ∙ sym (P.is a i h f)) S

-- whether white space passes where the run stands
pub passes_outside : {s : List ℕ} {z : State} → z.depth ≡ 0 → PassesAs s z true
passes_outside {s} {z} e = record { is = λ a i h f. by a z.rooted ∙ ap (passes_at (grammar a)) (sym (outside z e)) }
  where
    by : (a : Sheet) (b : Bool) → true ≡ passes_at (grammar a) (cond b after before)
    by a true = refl
    by a false = refl

pub passes_inside : {s : List ℕ} {z : State} {b : Bool} → 0 < z.depth → BlanksTold s (top_of z).production b → PassesAs s z b
passes_inside {s} {z} o B = record { is = λ a i h f. B.is a i ∙ ap (passes_at (grammar a)) (sym (inside_at z h o).stands) }

-- a token as it was matched
pub as_read : {s part : List ℕ} {e e' : Read} {z : State} {p : Pen} {r : SteppedSeen} {d : List ℕ} → e ≡ e' → TokenAs s part e' z p r d → TokenAs s part e z p r d
as_read {s} {part} {e} {e'} {z} {p} {r} {d} q T = subst (λ (y : Read). TokenAs s part y z p r d) (sym q) T

-- a name's bytes
pub cut_name : (part : List ℕ) (from len : ℕ) → take (from + len - from) (drop from part) ≡ take len (drop from part)
cut_name part from len = let n : from + len - from ≡ len = omega arith in ap (λ (k : ℕ). take k (drop from part)) n
