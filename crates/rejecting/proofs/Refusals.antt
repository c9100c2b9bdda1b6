-- A call of the converter that is refused with 25 stops at a token that an act rejects, where the state handed back stands (`refusal_rejects`); so its rejecter is named.
-- Assumes nothing.
use mathlib.Core.Path.{◌≡◌, refl, sym, ap, ◌∙◌, subst}
use mathlib.Core.Bool.{Bool, true, false, not}
use mathlib.Core.List.{List}
use mathlib.Core.Option.{Option, none, some, none-ne-some as none_some}
use Prim.Native.Nat.{ℕ, zero, suc, ◌-◌}
use native.Mathlib.Omega.{arith}
use lib.Dec.{leb}
use lib.ListN.{length, drop}
use Rattle.tokens.specs.declared.Event.{Event}
use Rattle.tokens.specs.declared.Answer.{Answer}
use Rattle.tokens.specs.declared.Answer.TheVariants.{Token, Waiting, Begun, Bad, Long}
use Rattle.tokens.specs.Stream.{settled, ReadAs}
use Rattle.sheet.specs.Sheet.{Sheet}
use Rattle.faults.proofs.Theorems.{verdict_most}
use Rattle.runs.specs.Visits.{most_visits}
use Rattle.runs.specs.Acts.{Act}
use Rattle.runs.specs.Machine.{Control, before, inside, after, Configuration, Answer as RunAnswer, took, refused}
use Rattle.runs.specs.Spells.{Token as RunToken, step_token}
use Rattle.calls.specs.Held.{Held}
use Rattle.calls.specs.Limits.{refuses, output_of, limited, within, one_token}
use Rattle.calls.specs.Names.{token_of}
use Rattle.calls.specs.Call.{Result, number_at, Stop, stops, full, no_token, CalledBy}
use Rattle.calls.proofs.Read.{token_there}
use Rattle.calls.proofs.Steps.{run_does}
use Rattle.state.specs.Meaning.{meaning_of}
use Rattle.state.specs.declared.State.{State}
use Rattle.converter.specs.declared.Reply.{Reply}
use Rattle.converter.specs.Answered.{held_of, GivenBack, sheet_fails, unfit, closed, Ran, as_given, runs}
use Rattle.rejecting.specs.First.{TokenRejects}
use Rattle.rejecting.specs.Named.{act_of, Rejects, by_act, by_nobody}
use Rattle.rejecting.specs.Promises.{RefusalsNamed}
use Rattle.rejecting.proofs.Theorems.{rejects_exactly}

-- a token refused with 25 is not refused for the count
of_token : (a : Sheet) (z : Configuration) (room : ℕ) (k : RunToken) → one_token a z room k ≡ refuses 25 → step_token a z k ≡ refused 25
of_token a z room k e = by (step_token a z k) e
  where
    by_tests : (y : Configuration) (c f : Bool) → limited y c f ≡ refuses 25 → ◌≡◌ {A = RunAnswer} (took y) (refused 25)
    by_tests y false f e = absurd (let h : ◌≡◌ {A = ℕ} 30 25 = cc in omega arith)
    by_tests y true false e = absurd (let x : ◌≡◌ {A = ℕ} 0 1 = cc in omega arith)
    by_tests y true true e = absurd (let x : ◌≡◌ {A = ℕ} 0 1 = cc in omega arith)

    by : (x : RunAnswer) → within room x ≡ refuses 25 → x ≡ refused 25
    by (took y) e = by_tests y (leb y.store.env.count most_visits) (leb (length (output_of y)) room) e
    by (refused n) e = let h : n ≡ 25 = cc in ap refused h

-- where no whole token comes next the number is another
no_25 : (more : Bool) (left : ℕ) (c : Control) (x : Answer) → number_at more left c x ≡ some 25 → ⊥
no_25 more left c (Token e next) h = none_some 25 h
no_25 more left c (Waiting e next) h = none_some 25 h
no_25 true left c Begun h = let y : ◌≡◌ {A = ℕ} 16 25 = cc in omega arith
no_25 false (suc left) c Begun h = let y : ◌≡◌ {A = ℕ} 27 25 = cc in omega arith
no_25 false zero before Begun h = let y : ◌≡◌ {A = ℕ} 27 25 = cc in omega arith
no_25 false zero (inside o os) Begun h = let y : ◌≡◌ {A = ℕ} 27 25 = cc in omega arith
no_25 false zero after Begun h = let y : ◌≡◌ {A = ℕ} 0 25 = cc in omega arith
no_25 more left c Bad h = let y : ◌≡◌ {A = ℕ} 20 25 = cc in omega arith
no_25 more left c Long h = let y : ◌≡◌ {A = ℕ} 21 25 = cc in omega arith

-- a whole token is one, whether or not more is to come
whole_ended : (more : Bool) (part : List ℕ) (at : ℕ) (e : Event) (next : _) → ReadAs more part at (Token e next) → ReadAs false part at (Token e next)
whole_ended true part at e next (b, m, q) = (b, m, by b q)
  where
    by : (b : Answer) → Token e next ≡ settled true b → Token e next ≡ settled false b
    by (Token e' next') q = q
    by (Waiting e' next') q = absurd (let x : ◌≡◌ {A = ℕ} 0 1 = cc in omega arith)
    by Begun q = q
    by Bad q = q
    by Long q = q
whole_ended false part at e next r = r

-- what stops a call with 25
record StoppedBy (a : Sheet) (part : List ℕ) (at : ℕ) (z : Configuration) : Type 0 where
  event : Event
  next : ℕ
  read : ReadAs false (drop at part) 0 (Token event (record { at = next }))
  act : Act
  rejects : TokenRejects a z (token_of a (drop at part) event) act

stopped_by : (a : Sheet) (part : List ℕ) (more : Bool) (at room : ℕ) (z : Configuration) (n : ℕ) → n ≡ 25 → Stop a part more at room z n → StoppedBy a part at z
stopped_by a part more at room z n h (stops e next n' m t) =
    let w = token_there more part (drop at part) at 0 refl e next m in
    let R = (rejects_exactly a z (token_of a part e)).0 (of_token a z room (token_of a part e) (t ∙ ap refuses h)) in
    record {
      event = w.event;
      next = w.to;
      read = whole_ended more (drop at part) 0 w.event (record { at = w.to }) w.read;
      act = R.0;
      rejects = subst (λ (k : RunToken). TokenRejects a z k R.0) (sym (w.same a)) R.1;
    }
stopped_by a part more at room z n h (full e next m t) = absurd (omega arith)
stopped_by a part more at room z n h (no_token x n' m q) = absurd (no_25 more (length (drop at part)) z.control x (q ∙ ap some h))

module _ {s : List ℕ} {z : State} {part : List ℕ} {ended : Bool} {lent d : List ℕ} {r : Reply} where
  refusal_rejects : Ran s z part ended lent d r → r.number ≡ 25 → (a : Act) × Rejects s r.state (drop r.taken part) a
  refusal_rejects R e = by R.answer R.called R.number R.taken (ap (λ (h : Held). h.run) R.held)
    where
      by : (x : Result) → CalledBy R.sheet part (not ended) (length lent) (held_of z).run (held_of z).closing x → r.number ≡ x.number → r.taken ≡ x.taken → meaning_of r.state ≡ x.held.run →
          (a : Act) × Rejects s r.state (drop r.taken part) a
      by x c n t m =
          let D = run_does R.sheet part (subst (λ (k : Option ℕ). CalledBy R.sheet part (not ended) (length lent) (held_of z).run k x) R.is_open c) in
          let B = stopped_by R.sheet part (not ended) x.taken (length lent - length x.output) x.held.run x.number (sym n ∙ e) D.stop in (
            B.act,
            subst (λ (k : ℕ). Rejects s r.state (drop k part) B.act) (sym t)
                (record {
                  sheet = R.sheet;
                  is_sheet = R.is_sheet;
                  passed = R.passed;
                  fits = R.fits_again;
                  event = B.event;
                  next = record { at = B.next };
                  read = B.read;
                  rejects = subst (λ (y : Configuration). TokenRejects R.sheet y (token_of R.sheet (drop x.taken part) B.event) B.act) (sym m) B.rejects;
                }),
          )

-- a state that is open is not given back with 25
not_given : {s : List ℕ} {z : State} → (held_of z).closing ≡ none → {n : ℕ} → n ≡ 25 → GivenBack s (some z) n → ⊥
not_given o e (sheet_fails h v) = omega (arith, verdict_most v, e)
not_given o e (unfit a i p f) = omega (arith, e)
not_given {z = z} o e (closed a i p y q f n h) = let k : z ≡ y = cc in none_some n (sym o ∙ ap (λ (x : State). (held_of x).closing) k ∙ h)

pub refusals_named : RefusalsNamed
refusals_named s z part ended lent d r (as_given g k v) o e q B n = not_given o e g
refusals_named s z part ended lent d r (runs R v) o e q (by_act a A k) n = none_some a (sym (ap act_of n) ∙ k)
refusals_named s z part ended lent d r (runs R v) o e q (by_nobody f k) n = let X = refusal_rejects R e in f X.0 X.1
