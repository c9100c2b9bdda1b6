-- A call whose state is bytes has one answer too, to the byte; its number is one of the table's, and the bytes handed back are a state, which fits when
-- the one before did. Where the bytes are a state, it answers as a call whose state is that value (`as_value`).
-- Assumes nothing.
use mathlib.Core.Path.{◌≡◌, refl, sym, ap, ◌∙◌, subst}
use mathlib.Core.Bool.{Bool}
use mathlib.Core.List.{List, ◌++◌}
use mathlib.Core.Option.{Option, some}
use Prim.Native.Nat.{ℕ, ◌≤◌}
use native.Mathlib.Omega.{arith}
use lib.ListN.{length, take, drop}
use Rattle.sheet.specs.Sheet.{Sheet, IsSheet}
use Rattle.runs.specs.Taken.{Passed}
use Rattle.state.specs.Bounds.{state_width}
use Rattle.state.specs.Bytes.{bytes_of, state_from}
use Rattle.state.specs.declared.State.{State}
use Rattle.state.proofs.Widths.{state_wide}
use Rattle.converter.specs.declared.Reply.{Reply}
use Rattle.converter.specs.declared.Counts.{Counts}
use Rattle.converter.specs.Answered.{FitsSheet, held_of, GivenBack, Ran, AnsweredAs, as_given as value_given, runs as value_runs}
use Rattle.converter.specs.Bytes.{AsValue, SameCounts, BytesAnsweredAs, as_given, runs}
use Rattle.converter.specs.Promises.{InTable, BytesNumbersInTable}
use Rattle.converter.proofs.Entering.{state_in_lem}
use Rattle.converter.proofs.Replies.{one_given, not_both, one_run_reply, written_first, given_number, ran_number, fits_here}

same_counts : (r q : Counts) → r.number ≡ q.number → r.taken ≡ q.taken → r.written ≡ q.written → r.visits ≡ q.visits → r ≡ q
same_counts r q n t w v = λ i. record { number = n i; taken = t i; written = w i; visits = v i }

not_run_too : {s part lent after : List ℕ} {ended : Bool} {z : State} {o : Option State} {q : Reply} {n : ℕ} → GivenBack s o n → o ≡ some z → Ran s z part ended lent after q → ⊥
not_run_too {s = s} {n = n} g e w = not_both (subst (λ (o : Option State). GivenBack s o n) e g) w

-- the same reply with the visits that its state counts
abbrev counted : Reply → Reply
counted q = record { number = q.number; taken = q.taken; written = q.written; visits = q.state.count; state = q.state }

ran_counted : {s part lent after : List ℕ} {ended : Bool} {z : State} {q : Reply} → Ran s z part ended lent after q → Ran s z part ended lent after (counted q)
ran_counted w =
    record {
      sheet = w.sheet;
      is_sheet = w.is_sheet;
      passed = w.passed;
      fits = w.fits;
      is_open = w.is_open;
      answer = w.answer;
      called = w.called;
      number = w.number;
      taken = w.taken;
      within = w.within;
      written = w.written;
      room = w.room;
      left = w.left;
      state = w.state;
      held = w.held;
      fits_again = w.fits_again;
    }

module _ {s b part : List ℕ} {ended : Bool} {lent : List ℕ} where
  -- any two answers that a call may have are one
  pub one_bytes : {b' b'' after after' : List ℕ} {r q : Counts} → BytesAnsweredAs s b b' part ended lent after r → BytesAnsweredAs s b b'' part ended lent after' q →
      SameCounts b' b'' after after' r q
  one_bytes {r = r} {q} (as_given g u) (as_given g' u') =
      record {
        counts = same_counts r q (one_given g g') (u.taken ∙ sym u'.taken) (u.written ∙ sym u'.written) (u.visits ∙ sym u'.visits);
        left = u.left ∙ sym u'.left;
        bytes = u.same ∙ sym u'.same;
      }
  one_bytes (as_given g u) (runs e q w c x y) = absurd (not_run_too g e w)
  one_bytes (runs e q w c x y) (as_given g u) = absurd (not_run_too g e w)
  one_bytes {r = r} {q} (runs e p w c x y) (runs e' p' w' c' x' y') =
      let (o, l) = one_run_reply refl (ran_counted w) (ran_counted w') refl refl in
      record {
        counts = same_counts r q
            (c.number ∙ ap (λ (t : Reply). t.number) o ∙ sym c'.number) (c.taken ∙ ap (λ (t : Reply). t.taken) o ∙ sym c'.taken)
            (c.written ∙ ap (λ (t : Reply). t.written) o ∙ sym c'.written) (c.visits ∙ ap (λ (t : Reply). t.visits) o ∙ sym c'.visits);
        left = l;
        bytes = x ∙ ap (λ (t : Reply). bytes_of t.state) o ∙ sym x';
      }

  -- what is handed back is a state's bytes where what was given is
  pub bytes_state : {b' after : List ℕ} {r : Counts} → length b ≡ state_width → BytesAnsweredAs s b b' part ended lent after r → length b' ≡ state_width
  bytes_state h (as_given g u) = ap length u.same ∙ h
  bytes_state {b'} h (runs e q w c x y) = ap length (x ∙ ap bytes_of (sym y)) ∙ state_wide b'

  -- the output stands first in the lent memory, and all past it is as lent; no more is taken or written than there is
  pub bytes_first : {b' after : List ℕ} {r : Counts} → BytesAnsweredAs s b b' part ended lent after r →
      (r.written ≡ length (take r.written after)) × (after ≡ take r.written after ++ drop r.written lent)
  bytes_first {after = after} {r} (as_given g u) =
      subst (λ (n : ℕ). (n ≡ length (take n after)) × (after ≡ take n after ++ drop n lent)) (sym u.written) (refl, u.left)
  bytes_first {after = after} {r} (runs e q w c x y) =
      subst (λ (n : ℕ). (n ≡ length (take n after)) × (after ≡ take n after ++ drop n lent)) (sym c.written) (written_first (value_runs (ran_counted w) refl))

  bytes_within : {b' after : List ℕ} {r : Counts} → BytesAnsweredAs s b b' part ended lent after r → (r.taken ≤ length part) × (r.written ≤ length lent)
  bytes_within (as_given g u) = (omega (arith, u.taken), omega (arith, u.written))
  bytes_within (runs e q w c x y) = (omega (arith, c.taken, w.within), omega (arith, c.written, w.written, w.room))

  pub and_within : {b' after : List ℕ} {r : Counts} → BytesAnsweredAs s b b' part ended lent after r →
      BytesAnsweredAs s b b' part ended lent after r × ((r.taken ≤ length part) × (r.written ≤ length lent))
  and_within w = (w, bytes_within w)

  pub bytes_fit : {a : Sheet} {b' after : List ℕ} {r : Counts} → IsSheet s a → Passed a → FitsSheet a (state_from b) → BytesAnsweredAs s b b' part ended lent after r → FitsSheet a (state_from b')
  bytes_fit {a} i ok f (as_given g u) = subst (λ (x : List ℕ). FitsSheet a (state_from x)) (sym u.same) f
  bytes_fit {a} i ok f (runs e q w c x y) = subst (FitsSheet a) (sym y) (fits_here i ok w.is_sheet w.fits_again)

pub bytes_numbers : BytesNumbersInTable
bytes_numbers s b b' part ended lent after r (as_given g u) = given_number g
bytes_numbers s b b' part ended lent after r (runs e q w c x y) = subst InTable (sym c.number) (ran_number w)

-- what is said of a call whose state is a value is said of this one
pub as_value : {s b b' part : List ℕ} {ended : Bool} {lent after : List ℕ} {r : Counts} → length b ≡ state_width → BytesAnsweredAs s b b' part ended lent after r →
    AsValue s b b' part ended lent after r
as_value {s} {b} {r = r} h (as_given g u) =
    record {
      reply = record { number = r.number; taken = 0; written = 0; visits = (state_from b).count; state = state_from b };
      answered = value_given (subst (λ (o : Option State). GivenBack s o r.number) (state_in_lem b h) g) (record { taken = refl; written = refl; state = refl; left = u.left }) refl;
      counts = record { number = refl; taken = u.taken; written = u.written; visits = u.visits };
      reads_back = ap state_from u.same;
    }
as_value h (runs e q w c x y) =
    record {
      reply = counted q;
      answered = value_runs (ran_counted w) refl;
      counts = record { number = c.number; taken = c.taken; written = c.written; visits = c.visits };
      reads_back = y;
    }

-- a call whose state is a value, put into bytes for it: what is read back is what that call answers
visits_of : {s part lent after : List ℕ} {ended : Bool} {z : State} {q : Reply} → AnsweredAs s z part ended lent after q → q.visits ≡ q.state.count
visits_of (value_given g a v) = v ∙ ap (λ (x : State). x.count) (sym a.state)
visits_of (value_runs w v) = v

pub by_value : {s b b' part : List ℕ} {ended : Bool} {lent after : List ℕ} {r : Counts} (z left : State) → length b ≡ state_width → state_from b ≡ z → left ≡ state_from b' →
    BytesAnsweredAs s b b' part ended lent after r →
    AnsweredAs s z part ended lent after (record { number = r.number; taken = r.taken; written = r.written; visits = r.visits; state = left })
by_value {s} {b} {part = part} {ended} {lent} {after} {r} z left l e d w =
    let v = as_value l w in
    let k = v.counts in
    let x : v.reply ≡ record { number = r.number; taken = r.taken; written = r.written; visits = r.visits; state = left } =
    same_reply v.reply (sym k.number) (sym k.taken) (sym k.written) (visits_of v.answered ∙ sym k.visits) (sym v.reads_back ∙ sym d) in
    subst (λ (y : State). AnsweredAs s y part ended lent after (record { number = r.number; taken = r.taken; written = r.written; visits = r.visits; state = left })) e
    (subst (λ (q : Reply). AnsweredAs s (state_from b) part ended lent after q) x v.answered)
  where
    same_reply : (q : Reply) {n t w : ℕ} {v : ℕ} {y : State} → q.number ≡ n → q.taken ≡ t → q.written ≡ w → q.visits ≡ v → q.state ≡ y →
        q ≡ record { number = n; taken = t; written = w; visits = v; state = y }
    same_reply q a b c d e = λ i. record { number = a i; taken = b i; written = c i; visits = d i; state = e i }
