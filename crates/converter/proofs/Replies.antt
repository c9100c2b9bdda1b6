-- What AnsweredAs says of a call. Under a sheet that passes and that the state fits, a reply is a call's answer in the sense of the calls (`is_call`): a
-- call that gives the state back under such a sheet was closed before (`given_closed`). So there is one reply (`one_reply`), its number is one of the
-- table's (`numbers`), and what it hands back fits (`handed_back_fit`).
-- Assumes nothing.
use mathlib.Core.Path.{◌≡◌, refl, sym, ap, ap₂, ◌∙◌, subst}
use mathlib.Core.Logic.{◌⊎◌, inl, inr}
use mathlib.Core.Bool.{Bool, true, false, not, ◌||◌, cond, true≢false}
use mathlib.Core.List.{List, [], ◌++◌}
use mathlib.Core.Option.{Option, none, some, none-ne-some as none_some}
use Prim.Native.Nat.{ℕ, zero, suc, ◌≤◌}
use native.Mathlib.Omega.{arith}
use lib.Dec.{eqb}
use lib.ListN.{length, take, drop}
use lib.Seq.{take-append_seam}
use borrow.Author.Tests.{eqb-true, eq-eqb}
use Rattle.expressions.specs.FaultList.{passes}
use Rattle.sheet.specs.Sheet.{Sheet, IsSheet}
use Rattle.sheet.proofs.SheetLaws.{one_sheet}
use Rattle.faults.specs.Verdict.{VerdictIs, of_sheet}
use Rattle.faults.proofs.Theorems.{one_verdict, verdict_most}
use Rattle.runs.specs.Taken.{Passed}
use Rattle.runs.specs.Machine.{Configuration as Run}
use Rattle.runs.specs.Closing.{Closing, closed_by_end, closed_by_refusal, closed_by_count}
use Rattle.calls.specs.Held.{Held, leaves_open, closing_of}
use Rattle.calls.specs.Call.{Result, Runs, takes, halts, again, CalledBy, Called}
use Rattle.calls.proofs.Answers.{call_one}
use Rattle.calls.proofs.Exactly.{closing_fits}
use Rattle.state.specs.Meaning.{meaning_of}
use Rattle.state.specs.Changes.{not_closed}
use Rattle.state.specs.declared.State.{State}
use Rattle.converter.specs.declared.Reply.{Reply}
use Rattle.converter.specs.Answered.{FitsSheet, held_of, state_of, GivenBack, sheet_fails, unfit, closed, Ran, AnsweredAs, as_given, runs}
use Rattle.converter.specs.Fed.{result_of}
use Rattle.converter.specs.Promises.{InTable, NumbersInTable}

pub some_inj : {X : Type 0} {x y : X} → some x ≡ some y → x ≡ y
some_inj e = cc

module _ {s : List ℕ} {a : Sheet} (i : IsSheet s a) (ok : Passed a) where
  not_failed : {n : ℕ} → 1 ≤ n → VerdictIs s n → ⊥
  not_failed h v = omega (arith, h, one_verdict v (of_sheet a i (passes ok.keeps_T ok.keeps_S)))

  pub fits_here : {b : Sheet} {z : State} → IsSheet s b → FitsSheet b z → FitsSheet a z
  fits_here {b} {z} j f = subst (λ (x : Sheet). FitsSheet x z) (one_sheet j i) f

  -- given back under a sheet that passes and that the state fits: it was closed
  pub given_closed : {z : State} {n : ℕ} → FitsSheet a z → GivenBack s (some z) n → (m : ℕ) × ((held_of z).closing ≡ some m) × (n ≡ again m)
  given_closed f (sheet_fails h v) = absurd (not_failed h v)
  given_closed {z} f (unfit b j k w) = absurd (w z refl (subst (λ (x : Sheet). FitsSheet x z) (one_sheet i j) f))
  given_closed {z} f (closed b j k y e g m h) = (m, ap (λ (x : State). (held_of x).closing) (some_inj e) ∙ h, refl)

-- there is one number of those that give the state back
pub one_given : {s : List ℕ} {o : Option State} {m n : ℕ} → GivenBack s o m → GivenBack s o n → m ≡ n
one_given (sheet_fails h v) (sheet_fails k w) = one_verdict v w
one_given (sheet_fails h v) (unfit b j l w) = absurd (not_failed j l h v)
one_given (sheet_fails h v) (closed b j l z e f m c) = absurd (not_failed j l h v)
one_given (unfit a i k w) (sheet_fails h v) = absurd (not_failed i k h v)
one_given (unfit a i k w) (unfit b j l w') = refl
one_given (unfit a i k w) (closed b j l z e f m c) = absurd (w z e (fits_here i k j f))
one_given (closed a i k z e f m c) (sheet_fails h v) = absurd (not_failed i k h v)
one_given (closed a i k z e f m c) (unfit b j l w) = absurd (w z e (fits_here j l i f))
one_given (closed a i k z e f m c) (closed b j l y e' f' m' c') =
    let q : z ≡ y = some_inj (sym e ∙ e') in
    ap again (some_inj (sym c ∙ ap (λ (x : State). (held_of x).closing) q ∙ c'))

-- the first bytes of a memory in which o stands first
pub first_bytes : (o lent after : List ℕ) (n : ℕ) → n ≡ length o → after ≡ o ++ drop (length o) lent → take n after ≡ o
first_bytes o lent after n e l = ap₂ (λ (m : ℕ) (k : List ℕ). take m k) e l ∙ take-append_seam o (drop (length o) lent)

module _ {s : List ℕ} {z : State} {part : List ℕ} {ended : Bool} {lent after : List ℕ} {r : Reply} where
  -- a run's reply is its answer
  pub ran_result : (w : Ran s z part ended lent after r) → result_of after r ≡ w.answer
  ran_result w =
      let n = w.number in
      let t = w.taken in
      let o : take r.written after ≡ w.answer.output = first_bytes w.answer.output lent after r.written w.written w.left in
      let h = w.held in
      λ i. record { number = n i; taken = t i; output = o i; held = h i }

  -- under a sheet that passes and that the state fits, a reply is what the call answers
  pub is_call : {a : Sheet} → IsSheet s a → Passed a → FitsSheet a z → AnsweredAs s z part ended lent after r → Called a part (not ended) (length lent) (held_of z) (result_of after r)
  is_call {a} i ok f (as_given g k v) =
      let (m, c, e) = given_closed i ok f g in
      let t = k.taken in
      let o : take r.written after ≡ [] = ap (λ (n : ℕ). take n after) k.written in
      let h : held_of r.state ≡ record { run = meaning_of z; closing = some m } =
      ap held_of k.state ∙ ap (λ (x : Option ℕ). record { run = meaning_of z; closing = x }) c in
      subst (λ (x : Option ℕ). CalledBy a part (not ended) (length lent) (meaning_of z) x (result_of after r)) (sym c) (λ j. record { number = e j; taken = t j; output = o j; held = h j })
  is_call {a} i ok f (runs w v) =
      subst (λ (x : Sheet). Called x part (not ended) (length lent) (held_of z) (result_of after r)) (one_sheet w.is_sheet i)
      (subst (Called w.sheet part (not ended) (length lent) (held_of z)) (sym (ran_result w)) w.called)

  -- a state that a call handed back fits when it fitted before
  pub handed_back_fit : {a : Sheet} → IsSheet s a → Passed a → FitsSheet a z → AnsweredAs s z part ended lent after r → FitsSheet a r.state
  handed_back_fit {a} i ok f (as_given g k v) = subst (FitsSheet a) (sym k.state) f
  handed_back_fit {a} i ok f (runs w v) = fits_here i ok w.is_sheet w.fits_again

pub not_both : {s : List ℕ} {z : State} {part : List ℕ} {ended : Bool} {lent after : List ℕ} {r : Reply} {n : ℕ} → GivenBack s (some z) n → Ran s z part ended lent after r → ⊥
not_both g w = let (m, c, e) = given_closed w.is_sheet w.passed w.fits g in none_some m (sym w.is_open ∙ c)

-- the same in all that a call answers and leaves
same_reply : {r q : Reply} → r.number ≡ q.number → r.taken ≡ q.taken → r.written ≡ q.written → r.visits ≡ q.visits → r.state ≡ q.state → r ≡ q
same_reply n t w v z = λ i. record { number = n i; taken = t i; written = w i; visits = v i; state = z i }

-- a call that runs from one of two states that hold the same, and from the other
module _ {s : List ℕ} {z y : State} {part : List ℕ} {ended : Bool} {lent after after' : List ℕ} {r q : Reply} (same : held_of z ≡ held_of y)
    (w : Ran s z part ended lent after r) (u : Ran s y part ended lent after' q) where
  same_answer : w.answer ≡ u.answer
  same_answer =
      let c : Called u.sheet part (not ended) (length lent) (held_of y) w.answer =
      subst (λ (x : Sheet). Called x part (not ended) (length lent) (held_of y) w.answer) (one_sheet w.is_sheet u.is_sheet)
      (subst (λ (h : Held). Called w.sheet part (not ended) (length lent) h w.answer) same w.called) in
      call_one u.sheet part (not ended) (length lent) (held_of y) w.answer u.answer c u.called

  pub one_state : r.state ≡ q.state
  one_state = w.state ∙ ap (λ (x : Result). state_of x.held) same_answer ∙ sym u.state

  pub one_run_reply : r.visits ≡ r.state.count → q.visits ≡ q.state.count → (r ≡ q) × (after ≡ after')
  one_run_reply v v' =
      let e = same_answer in (
        same_reply
            (w.number ∙ ap (λ (x : Result). x.number) e ∙ sym u.number)
            (w.taken ∙ ap (λ (x : Result). x.taken) e ∙ sym u.taken)
            (w.written ∙ ap (λ (x : Result). length x.output) e ∙ sym u.written)
            (v ∙ ap (λ (x : State). x.count) one_state ∙ sym v')
            one_state,
        w.left ∙ ap (λ (x : Result). x.output ++ drop (length x.output) lent) e ∙ sym u.left,
      )

-- any two replies that a call may have are one
pub one_reply : {s : List ℕ} {z : State} {part : List ℕ} {ended : Bool} {lent after after' : List ℕ} {r q : Reply} →
    AnsweredAs s z part ended lent after r → AnsweredAs s z part ended lent after' q → (r ≡ q) × (after ≡ after')
one_reply (as_given g k v) (as_given g' k' v') = (
  same_reply (one_given g g') (k.taken ∙ sym k'.taken) (k.written ∙ sym k'.written) (v ∙ sym v') (k.state ∙ sym k'.state),
  k.left ∙ sym k'.left,
)
one_reply (as_given g k v) (runs u v') = absurd (not_both g u)
one_reply (runs w v) (as_given g k v') = absurd (not_both g w)
one_reply (runs w v) (runs u v') = one_run_reply refl w u v v'

-- and so are those that a call may have from two states that hold the same, where it runs: no answer depends on how a state came to be
pub same_held : {s : List ℕ} {a : Sheet} → IsSheet s a → Passed a → {z y : State} → FitsSheet a z → FitsSheet a y → held_of z ≡ held_of y →
    {part : List ℕ} {ended : Bool} {lent after after' : List ℕ} {r q : Reply} → AnsweredAs s z part ended lent after r → AnsweredAs s y part ended lent after' q →
    (result_of after r ≡ result_of after' q) × ((held_of z).closing ≡ none → (r ≡ q) × (after ≡ after'))
same_held {s} {a} i ok {z} {y} f g e {part} {ended} {lent} {after} {after'} {r} {q} w u = (
  call_one a part (not ended) (length lent) (held_of y) (result_of after r) (result_of after' q)
      (subst (λ (h : Held). Called a part (not ended) (length lent) h (result_of after r)) e (is_call i ok f w)) (is_call i ok g u),
  (λ o. by o w u),
)
  where
    by : (held_of z).closing ≡ none → AnsweredAs s z part ended lent after r → AnsweredAs s y part ended lent after' q → (r ≡ q) × (after ≡ after')
    by o (runs w v) (runs u v') = one_run_reply e w u v v'
    by o (as_given k x v) u = absurd (let (m, c, n) = given_closed i ok f k in none_some m (sym o ∙ c))
    by o (runs w v) (as_given k x v') = absurd (let (m, c, n) = given_closed i ok g k in none_some m (sym o ∙ ap (λ (h : Held). h.closing) e ∙ c))

closing_in : {n : ℕ} → Closing n → InTable n
closing_in closed_by_end = inl (omega arith)
closing_in (closed_by_refusal h k) = inr (inr (inr (h, omega arith)))
closing_in closed_by_count = inr (inr (inr (omega arith, omega arith)))

-- what a run hands back is closed or not by its number
handed_by : {a : Sheet} {part : List ℕ} {more : Bool} {at room : ℕ} {z : Run} {r : Result} → Runs a part more at room z r →
    r.held.closing ≡ closing_of (leaves_open r.number) r.number
handed_by (takes e next z' w m t d) = handed_by d
handed_by (halts q) = refl

pub run_number : {a : Sheet} {part : List ℕ} {more : Bool} {at room : ℕ} {z : Run} {r : Result} → Runs a part more at room z r → InTable r.number
run_number {r = r} d = by (eqb r.number 16) (eqb r.number 17) refl refl (handed_by d)
  where
    by : (b c : Bool) → eqb r.number 16 ≡ b → eqb r.number 17 ≡ c → r.held.closing ≡ closing_of (b || c) r.number → InTable r.number
    by true c e h k = inr (inl (eqb-true r.number 16 e))
    by false true e h k = inr (inr (inl (eqb-true r.number 17 h)))
    by false false e h k = closing_in (closing_fits d r.number k)

again_in : {c n : ℕ} → Closing c → c ≡ n → InTable (again n)
again_in {n = zero} k e = inr (inr (inr (omega arith, omega arith)))
again_in {n = suc n} closed_by_end e = absurd (omega arith)
again_in {n = suc n} (closed_by_refusal h k) e = inr (inr (inr (omega arith, omega arith)))
again_in {n = suc n} closed_by_count e = inr (inr (inr (omega arith, omega arith)))

pub given_number : {s : List ℕ} {o : Option State} {n : ℕ} → GivenBack s o n → InTable n
given_number (sheet_fails h v) = inl (verdict_most v)
given_number (unfit a i k w) = inr (inr (inr (omega arith, omega arith)))
given_number (closed a i k z e f m c) = by f.closing (eqb z.closed not_closed) refl c
  where
    by : (z.closed ≡ not_closed) ⊎ Closing z.closed → (b : Bool) → eqb z.closed not_closed ≡ b → cond b none (some z.closed) ≡ some m → InTable (again m)
    by q true e c = absurd (none_some m c)
    by (inl q) false e c = absurd (true≢false (sym (eq-eqb z.closed not_closed q) ∙ e))
    by (inr q) false e c = again_in q (some_inj c)

pub ran_number : {s : List ℕ} {z : State} {part : List ℕ} {ended : Bool} {lent after : List ℕ} {r : Reply} → Ran s z part ended lent after r → InTable r.number
ran_number {z = z} {part} {ended} {lent} w =
    subst InTable (sym w.number)
    (run_number (subst (λ (c : Option ℕ). CalledBy w.sheet part (not ended) (length lent) (meaning_of z) c w.answer) w.is_open w.called))

-- every number that a call answers
pub numbers : NumbersInTable
numbers s z part ended lent after r (as_given g k v) = given_number g
numbers s z part ended lent after r (runs w v) = ran_number w

-- the output stands first in the lent memory, and all past it is as lent
pub written_first : {s : List ℕ} {z : State} {part : List ℕ} {ended : Bool} {lent after : List ℕ} {r : Reply} → AnsweredAs s z part ended lent after r →
    (r.written ≡ length (take r.written after)) × (after ≡ take r.written after ++ drop r.written lent)
written_first {lent = lent} {after} {r} (as_given g k v) =
    let o : take r.written after ≡ [] = ap (λ (n : ℕ). take n after) k.written in
    (k.written ∙ sym (ap length o), k.left ∙ ap₂ (λ (l : List ℕ) (n : ℕ). l ++ drop n lent) (sym o) (sym k.written))
written_first {lent = lent} {after} {r} (runs w v) =
    let o : take r.written after ≡ w.answer.output = ap (λ (x : Result). x.output) (ran_result w) in
    (w.written ∙ sym (ap length o), w.left ∙ ap₂ (λ (l : List ℕ) (n : ℕ). l ++ drop n lent) (sym o) (sym w.written))

-- so where these bytes are o, that many are written and the whole memory is known
pub written_are : {s : List ℕ} {z : State} {part : List ℕ} {ended : Bool} {lent after : List ℕ} {r : Reply} → AnsweredAs s z part ended lent after r →
    (o : List ℕ) → take r.written after ≡ o → (r.written ≡ length o) × (after ≡ o ++ drop (length o) lent)
written_are {lent = lent} {after} {r} w o e =
    let k = written_first w in
    let n : r.written ≡ length o = k.0 ∙ ap length e in
    (n, k.1 ∙ ap₂ (λ (l : List ℕ) (m : ℕ). l ++ drop m lent) e n)

-- the visits are the count of what the state holds
pub visits_held : {s : List ℕ} {z : State} {part : List ℕ} {ended : Bool} {lent after : List ℕ} {r : Reply} → AnsweredAs s z part ended lent after r →
    r.visits ≡ (held_of r.state).run.store.env.count
unfolding meaning_of
visits_held (as_given g k v) = v ∙ ap (λ (x : State). x.count) (sym k.state)
visits_held (runs w v) = v

-- no more is taken or written than there is
within_both : {s : List ℕ} {z : State} {part : List ℕ} {ended : Bool} {lent after : List ℕ} {r : Reply} → AnsweredAs s z part ended lent after r →
    (r.taken ≤ length part) × (r.written ≤ length lent)
within_both (as_given g k v) = (omega (arith, k.taken), omega (arith, k.written))
within_both (runs w v) = (w.within, omega (arith, w.written, w.room))

pub and_within : {s : List ℕ} {z : State} {part : List ℕ} {ended : Bool} {lent after : List ℕ} {r : Reply} → AnsweredAs s z part ended lent after r →
    AnsweredAs s z part ended lent after r × ((r.taken ≤ length part) × (r.written ≤ length lent))
and_within w = (w, within_both w)
