-- A token with the limits on count and room, one law for each return of `take`, all from what the dry run answered; and the answer is one.
-- Assumes nothing.
use mathlib.Core.Path.{◌≡◌, refl, sym, ap, ap₂, ◌∙◌, subst}
use mathlib.Core.Bool.{Bool, true, false}
use mathlib.Core.List.{List, [], ◌++◌, append-nil, append_assoc}
use Prim.Native.Nat.{ℕ, ◌+◌, ◌-◌, ◌≤◌, ◌<◌}
use native.Mathlib.Nat.{zero-add}
use native.Mathlib.Omega.{arith}
use borrow.Author.Tests.{le-leb, lt-leb}
use lib.Dec.{leb}
use lib.ListN.{length, take, drop, length-drop, drop_of_length-le, take-append-drop}
use lib.Seq.{take_all, drop-drop, take-append_seam}
use Rattle.lent.specs.Put.{put, PutAs}
use Rattle.lent.proofs.Laws.{put_all, put_dry}
use Rattle.output.proofs.Writing.{put_one_outcome}
use Rattle.tokens.specs.declared.Event.{Event as Read}
use Rattle.sheet.specs.Sheet.{Sheet, IsSheet}
use Rattle.visits.specs.Written.{Pen}
use Rattle.runs.specs.Visits.{most_visits}
use Rattle.runs.specs.Events.{Event}
use Rattle.runs.specs.Machine.{Configuration as Standing, Answer, took, refused, step}
use Rattle.runs.specs.Spells.{step_token}
use Rattle.calls.specs.Limits.{Taking, taken, refuses, no_room, limited, within, one_token, output_of}
use Rattle.calls.specs.Names.{token_of}
use Rattle.calls.proofs.Frame.{count_of, step_number, token_number}
use Rattle.fit.specs.RunFits.{RunFits}
use Rattle.state.specs.declared.State.{State}
use Rattle.state.specs.Meaning.{meaning_of, Shaped}
use Rattle.steps.specs.Seen.{SteppedSeen}
use Rattle.steps.specs.Stepped.{Took, StepAnswered, SteppedAs, TokenAs}
use Rattle.steps.specs.Taken.{Left, TakingIs, TakenAs, SameStep}
use Rattle.steps.specs.Parts.{RunReady, ReadyAt}
use Rattle.live.specs.Live.{full}
use Rattle.live.specs.declared.Live.{Live}

-- a state's count is its run's
counts : (z : State) → count_of (meaning_of z) ≡ z.count
unfolding meaning_of
counts z = refl

count_after : {m : Standing} {z : State} {p : Pen} {r : SteppedSeen} {d : List ℕ} → Took m z p r d → r.state.count ≡ count_of m
count_after {m} {z} {p} {r} K = sym (counts r.state) ∙ ap count_of K.means

-- the run dry, and where it writes
abbrev pub dry_pen : List ℕ → Pen
dry_pen lent = record { write = false; lent = lent; at = 0 }

abbrev pub wet_pen : List ℕ → ℕ → Pen
wet_pen lent at = record { write = true; lent = drop at lent; at = 0 }

-- a stack of which the state reads the same
pub ready_still : {s : List ℕ} {h : Live} {b b' : List ℕ} → full h b' ≡ full h b → length b' ≡ length b → ReadyAt s h b → ReadyAt s h b'
ready_still {s} e l r = record { ready = subst (RunReady s) (sym e) r.ready; long = omega (arith, l, r.long) }

-- a token run into memory of its own tells what it would do dry
abbrev pub own_pen : List ℕ → Pen
own_pen own = record { write = true; lent = own; at = 0 }

dry_answer : (x : Answer) (z : State) (own own' lent : List ℕ) (y : SteppedSeen) → StepAnswered x z (own_pen own) y own' → StepAnswered x z (dry_pen lent) y lent
dry_answer (refused n) z own own' lent y A = A
dry_answer (took m) z own own' lent y A =
    record {
      number = A.number;
      means = A.means;
      shaped = A.shaped;
      closed = A.closed;
      written = record { next = A.written.next; left = sym (put_dry false lent 0 (output_of m) refl) };
    }

pub as_dry : {s part : List ℕ} {e : Read} {z : State} {own own' : List ℕ} {y : SteppedSeen} (lent : List ℕ) → TokenAs s part e z (own_pen own) y own' → TokenAs s part e z (dry_pen lent) y lent
as_dry {s} {part} {e} {z} {own} {own'} {y} lent O =
    record {
      reach = O.reach;
      count = O.count;
      dry = λ _. refl;
      right = λ a i h f. dry_answer (step_token a (meaning_of z) (token_of a part e)) z own own' lent y (O.right a i h f);
    }

module _ {s part : List ℕ} {e : Read} {z : State} {lent : List ℕ} {at : ℕ} (inside : at ≤ length lent) (few : z.count ≤ most_visits)
    (y : SteppedSeen) (d : List ℕ) (D : TokenAs s part e z (dry_pen lent) y d) where
  abbrev Step : Sheet → Answer
  Step a = step_token a (meaning_of z) (token_of a part e)

  abbrev Room : ℕ
  Room = length lent - at

  -- what the dry run took, where it answers 0
  dry_took : (a : Sheet) → IsSheet s a → Shaped z → RunFits a (meaning_of z) → y.number ≡ 0 → (m : Standing) × (Step a ≡ took m) × Took m z (dry_pen lent) y d
  dry_took a i h f q = by (Step a) refl (D.right a i h f)
    where
      by : (x : Answer) → Step a ≡ x → StepAnswered x z (dry_pen lent) y d → (m : Standing) × (x ≡ took m) × Took m z (dry_pen lent) y d
      by (took m) k A = (m, refl, A)
      by (refused n) k A = absurd (omega (arith, (token_number a (meaning_of z) (token_of a part e) n k).0, A, q))

  -- refused: all as it was
  module _ (n : ℕ) (r : SteppedSeen) (q : r ≡ record { number = n; at = at; state = z }) where
    all_left : ((a : Sheet) → IsSheet s a → Shaped z → RunFits a (meaning_of z) → TakingIs (one_token a (meaning_of z) Room (token_of a part e)) z lent at (record { number = n; at = at; state = z }) lent) →
        (d' : List ℕ) → d' ≡ lent → TakenAs s part e z lent at r d'
    all_left f d' same =
        subst (λ (w : List ℕ). TakenAs s part e z lent at r w) (sym same)
        (subst (λ (w : SteppedSeen). TakenAs s part e z lent at w lent) (sym q) (record { inside = inside; count = few; right = f }))

  pub take_refused : (y.number ≡ 0 → ⊥) → (r : SteppedSeen) → r ≡ record { number = y.number; at = at; state = z } → TakenAs s part e z lent at r d
  take_refused k r q =
      all_left y.number r q (λ a i h f. by a (Step a) (D.right a i h f)) d (D.dry refl)
    where
      by : (a : Sheet) (x : Answer) → StepAnswered x z (dry_pen lent) y d → TakingIs (within Room x) z lent at (record { number = y.number; at = at; state = z }) lent
      by a (took m) A = absurd (k A.number)
      by a (refused n) A = record { number = A; state = refl; next = refl; left = refl }

  module _ (zero : y.number ≡ 0) where
    -- the answer by the two limits
    by_limits : (a : Sheet) (i : IsSheet s a) (h : Shaped z) (f : RunFits a (meaning_of z)) (b b' : Bool) → leb (count_of (dry_took a i h f zero).0) most_visits ≡ b →
        leb (length (output_of (dry_took a i h f zero).0)) Room ≡ b' → one_token a (meaning_of z) Room (token_of a part e) ≡ limited (dry_took a i h f zero).0 b b'
    by_limits a i h f b b' p p' = ap (within Room) (dry_took a i h f zero).1 ∙ ap₂ (λ (c c' : Bool). limited (dry_took a i h f zero).0 c c') p p'

    pub take_counted : most_visits < y.state.count → (r : SteppedSeen) → r ≡ record { number = 30; at = at; state = z } → TakenAs s part e z lent at r d
    take_counted k r q =
        all_left 30 r q
        (λ a i h f.
        let w = dry_took a i h f zero in
        subst (λ (t : Taking). TakingIs t z lent at (record { number = 30; at = at; state = z }) lent)
        (sym (by_limits a i h f false (leb (length (output_of w.0)) Room) (lt-leb (count_of w.0) most_visits (omega (arith, count_after w.2, k))) refl))
        (record { number = refl; state = refl; next = refl; left = refl }))
        d (D.dry refl)

    module _ (counted : y.state.count ≤ most_visits) where
      pub take_full : Room < y.at → (r : SteppedSeen) → r ≡ record { number = 17; at = at; state = z } → TakenAs s part e z lent at r d
      take_full k r q =
          all_left 17 r q
          (λ a i h f.
          let w = dry_took a i h f zero in
          subst (λ (t : Taking). TakingIs t z lent at (record { number = 17; at = at; state = z }) lent)
          (sym (by_limits a i h f true false (le-leb (count_of w.0) most_visits (omega (arith, count_after w.2, counted))) (lt-leb (length (output_of w.0)) Room (omega (arith, w.2.written.next, k)))))
          (record { number = refl; state = refl; next = refl; left = refl }))
          d (D.dry refl)

      -- where there is no output the memory is as it was, with nothing written into it
      pub take_silent : y.at ≡ 0 → (r : SteppedSeen) → r ≡ record { number = 0; at = at; state = y.state } → TakenAs s part e z lent at r d
      take_silent k r q =
          subst (λ (w : List ℕ). TakenAs s part e z lent at r w) (sym (D.dry refl))
          (subst (λ (w : SteppedSeen). TakenAs s part e z lent at w lent) (sym q)
          (record {
            inside = inside;
            count = counted;
            right = λ a i h f.
                let w = dry_took a i h f zero in
                let m : Standing = w.0 in
                let l : length (output_of m) ≡ 0 = omega (arith, w.2.written.next, k) in
                let none : length (output_of m) ≤ 0 = omega (arith, l) in
                let o : output_of m ≡ [] = drop_of_length-le (output_of m) none in
                let n : at + length (output_of m) ≡ at = omega (arith, l) in
                subst (λ (t : Taking). TakingIs t z lent at (record { number = 0; at = at; state = y.state }) lent)
                (sym (by_limits a i h f true true (le-leb (count_of m) most_visits (omega (arith, count_after w.2, counted))) (le-leb (length (output_of m)) Room (omega (arith, l)))))
                (record {
                  number = refl;
                  means = w.2.means;
                  shaped = w.2.shaped;
                  closed = w.2.closed;
                  next = omega (arith, l);
                  left = sym (ap₂ (λ (u : List ℕ) (n : ℕ). take at lent ++ (u ++ drop n lent)) o n ∙ take-append-drop at lent);
                });
          }))

      written_out : y.at ≤ Room → (x : SteppedSeen) (d' : List ℕ) → TokenAs s part e z (wet_pen lent at) x d' → (r : SteppedSeen) → r ≡ record { number = 0; at = at + y.at; state = y.state } →
          TakenAs s part e z lent at r (take at lent ++ d')
      written_out k x d' W r q =
          subst (λ (w : SteppedSeen). TakenAs s part e z lent at w (take at lent ++ d')) (sym q)
          (record {
            inside = omega (arith, inside, k);
            count = counted;
            right = λ a i h f.
                let w = dry_took a i h f zero in
                let m : Standing = w.0 in
                let A : Took m z (wet_pen lent at) x d' = subst (λ (t : Answer). StepAnswered t z (wet_pen lent at) x d') w.1 (W.right a i h f) in
                let l : y.at ≡ length (output_of m) = omega (arith, w.2.written.next) in
                subst (λ (t : Taking). TakingIs t z lent at (record { number = 0; at = at + y.at; state = y.state }) (take at lent ++ d'))
                (sym (by_limits a i h f true true (le-leb (count_of m) most_visits (omega (arith, count_after w.2, counted))) (le-leb (length (output_of m)) Room (omega (arith, l, k)))))
                (record {
                  number = refl;
                  means = w.2.means;
                  shaped = w.2.shaped;
                  closed = w.2.closed;
                  next = ap (λ (n : ℕ). at + n) l;
                  left = ap (λ (t : List ℕ). take at lent ++ t)
                      (A.written.left ∙ put_all (drop at lent) 0 (output_of m) (omega (arith, length-drop at lent, l, k))
                      ∙ ap (λ (n : ℕ). output_of m ++ drop n (drop at lent)) (zero-add (length (output_of m))) ∙ ap (λ (t : List ℕ). output_of m ++ t) (drop-drop (length (output_of m)) at lent));
                });
          })

      -- what was written in memory of its own, copied
      pub take_copied : y.at ≤ Room → (own own' : List ℕ) → TokenAs s part e z (own_pen own) y own' → y.at ≤ length own → (d' : List ℕ) (to : ℕ) → PutAs true lent at (take y.at own') d' to →
          (r : SteppedSeen) → r ≡ record { number = 0; at = at + y.at; state = y.state } → TakenAs s part e z lent at r d'
      take_copied k own own' O short d' to P r q =
          subst (λ (w : SteppedSeen). TakenAs s part e z lent at w d') (sym q)
          (record {
            inside = omega (arith, inside, k);
            count = counted;
            right = λ a i h f.
                let w = dry_took a i h f zero in
                let m : Standing = w.0 in
                let A : Took m z (own_pen own) y own' = subst (λ (t : Answer). StepAnswered t z (own_pen own) y own') w.1 (O.right a i h f) in
                let l : y.at ≡ length (output_of m) = omega (arith, w.2.written.next) in
                let there : own' ≡ output_of m ++ drop (0 + length (output_of m)) own = A.written.left ∙ put_all own 0 (output_of m) (omega (arith, l, short)) in
                let copied : take y.at own' ≡ output_of m = ap₂ take l there ∙ take-append_seam (output_of m) (drop (0 + length (output_of m)) own) in
                subst (λ (t : Taking). TakingIs t z lent at (record { number = 0; at = at + y.at; state = y.state }) d')
                (sym (by_limits a i h f true true (le-leb (count_of m) most_visits (omega (arith, count_after w.2, counted))) (le-leb (length (output_of m)) Room (omega (arith, l, k)))))
                (record {
                  number = refl;
                  means = w.2.means;
                  shaped = w.2.shaped;
                  closed = w.2.closed;
                  next = ap (λ (n : ℕ). at + n) l;
                  left = P.left ∙ ap (put true lent at) copied ∙ put_all lent at (output_of m) (omega (arith, l, k, inside)) ∙ append_assoc (take at lent) (output_of m) (drop (at + length (output_of m)) lent);
                });
          })

      -- the second run's own state, which stands for the same
      same_then : RunReady s z → (x : SteppedSeen) (p : Pen) (d' : List ℕ) → TokenAs s part e z p x d' → x.state.count ≤ most_visits
      same_then k x p d' W =
          let w = dry_took k.sheet k.is_sheet k.shaped k.fits zero in
          let A : Took w.0 z p x d' = subst (λ (t : Answer). StepAnswered t z p x d') w.1 (W.right k.sheet k.is_sheet k.shaped k.fits) in
          omega (arith, count_after A, count_after w.2, counted)

      pub take_again : RunReady s z → y.at ≤ Room → (x : SteppedSeen) (d' : List ℕ) → TokenAs s part e z (wet_pen lent at) x d' → (r : SteppedSeen) → r ≡ record { number = 0; at = at + y.at; state = x.state } →
          TakenAs s part e z lent at r (take at lent ++ d')
      take_again ready k x d' W r q =
          subst (λ (w : SteppedSeen). TakenAs s part e z lent at w (take at lent ++ d')) (sym q)
          (record {
            inside = omega (arith, inside, k);
            count = same_then ready x (wet_pen lent at) d' W;
            right = λ a i h f.
                let w = dry_took a i h f zero in
                let m : Standing = w.0 in
                let A : Took m z (wet_pen lent at) x d' = subst (λ (t : Answer). StepAnswered t z (wet_pen lent at) x d') w.1 (W.right a i h f) in
                let l : y.at ≡ length (output_of m) = omega (arith, w.2.written.next) in
                subst (λ (t : Taking). TakingIs t z lent at (record { number = 0; at = at + y.at; state = x.state }) (take at lent ++ d'))
                (sym (by_limits a i h f true true (le-leb (count_of m) most_visits (omega (arith, count_after w.2, counted))) (le-leb (length (output_of m)) Room (omega (arith, l, k)))))
                (record {
                  number = refl;
                  means = A.means;
                  shaped = A.shaped;
                  closed = A.closed;
                  next = ap (λ (n : ℕ). at + n) l;
                  left = ap (λ (t : List ℕ). take at lent ++ t)
                      (A.written.left ∙ put_all (drop at lent) 0 (output_of m) (omega (arith, length-drop at lent, l, k))
                      ∙ ap (λ (n : ℕ). output_of m ++ drop n (drop at lent)) (zero-add (length (output_of m))) ∙ ap (λ (t : List ℕ). output_of m ++ t) (drop-drop (length (output_of m)) at lent));
                });
          })

      -- the part of the memory that is lent to the second run, and the whole with what that left of it
      pub take_done : RunReady s z → y.at ≤ Room → (z' : State) → z' ≡ z → (x : SteppedSeen) (d' : List ℕ) → TokenAs s part e z' (record { write = true; lent = take (length lent - at) (drop at lent); at = 0 }) x d' → (r : SteppedSeen) →
          r ≡ record { number = 0; at = at + y.at; state = x.state } → TakenAs s part e z lent at r (take at lent ++ (d' ++ drop (length lent - at) (drop at lent)))
      take_done ready k z' same x d' W r q =
          let l : length (drop at lent) ≤ length lent - at = omega (arith, length-drop at lent) in
          subst (λ (w : List ℕ). TakenAs s part e z lent at r (take at lent ++ (d' ++ w))) (sym (drop_of_length-le (drop at lent) l))
          (subst (λ (w : List ℕ). TakenAs s part e z lent at r (take at lent ++ w)) (sym (append-nil d'))
          (take_again ready k x d' (subst (λ (w : List ℕ). TokenAs s part e z (record { write = true; lent = w; at = 0 }) x d') (take_all (length lent - at) (drop at lent) l)
          (subst (λ (v : State). TokenAs s part e v (record { write = true; lent = take (length lent - at) (drop at lent); at = 0 }) x d') same W)) r q))

-- the answer is one
pub one_answer : {s part : List ℕ} {e : Read} {z : State} {lent : List ℕ} {at : ℕ} {r r' : SteppedSeen} {d d' : List ℕ} → RunReady s z →
    TakenAs s part e z lent at r d → TakenAs s part e z lent at r' d' → SameStep r r' d d'
one_answer {s} {part} {e} {z} {lent} {at} {r} {r'} {d} {d'} y t t' =
    by (one_token y.sheet (meaning_of z) (length lent - at) (token_of y.sheet part e)) (t.right y.sheet y.is_sheet y.shaped y.fits) (t'.right y.sheet y.is_sheet y.shaped y.fits)
  where
    left_one : (n : ℕ) → Left n z lent at r d → Left n z lent at r' d' → SameStep r r' d d'
    left_one n k k' =
        record {
          number = k.number ∙ sym k'.number;
          next = k.next ∙ sym k'.next;
          memory = k.left ∙ sym k'.left;
          means = ap meaning_of (k.state ∙ sym k'.state);
        }

    by : (x : Taking) → TakingIs x z lent at r d → TakingIs x z lent at r' d' → SameStep r r' d d'
    by (taken m w) k k' =
        record {
          number = k.number ∙ sym k'.number;
          next = k.next ∙ sym k'.next;
          memory = k.left ∙ sym k'.left;
          means = k.means ∙ sym k'.means;
        }
    by (refuses n) k k' = left_one n k k'
    by no_room k k' = left_one 17 k k'

-- the same of an event: one number, and where that is 0 one offset, one memory and one meaning
pub one_event : {s : List ℕ} {x : Event} {z : State} {p : Pen} {r r' : SteppedSeen} {d d' : List ℕ} → RunReady s z → SteppedAs s x z p r d → SteppedAs s x z p r' d' →
    (r.number ≡ r'.number) × (r.number ≡ 0 → SameStep r r' d d')
one_event {s} {x} {z} {p} {r} {r'} {d} {d'} y t t' =
    by (step y.sheet (meaning_of z) x) refl (t.right y.sheet y.is_sheet y.shaped y.fits) (t'.right y.sheet y.is_sheet y.shaped y.fits)
  where
    by : (k : Answer) → step y.sheet (meaning_of z) x ≡ k → StepAnswered k z p r d → StepAnswered k z p r' d' → (r.number ≡ r'.number) × (r.number ≡ 0 → SameStep r r' d d')
    by (refused n) q A A' = (A ∙ sym A', λ e. absurd (omega (arith, (step_number y.sheet (meaning_of z) x n q).0, A, e)))
    by (took m) q A A' =
        let o = put_one_outcome p.write p.lent p.at (output_of m) d d' r.at r'.at A.written A'.written in
        (A.number ∙ sym A'.number, λ e. record { number = A.number ∙ sym A'.number; next = o.1; memory = o.0; means = A.means ∙ sym A'.means })
