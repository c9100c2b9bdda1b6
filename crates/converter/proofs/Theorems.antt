-- What a reader wants of a call of the code. From the fresh state, over a whole stream, it answers 0 exactly when the stream is accepted and its output has
-- room, and then it has written that output and counted those visits. A stream in parts gives what one call gives. A closed state repeats its number.
-- Each is the law of the calls, as a reply is a call's answer (`is_call`).
-- Assumes nothing.
use mathlib.Core.Path.{◌≡◌, refl, sym, ap, ap₂, ◌∙◌, subst}
use mathlib.Core.Logic.{inl, inr}
use mathlib.Core.Bool.{Bool, true, false, not}
use mathlib.Core.List.{List, ◌++◌}
use mathlib.Core.Option.{none-ne-some as none_some}
use Prim.Native.Nat.{ℕ, ◌≤◌}
use lib.ListN.{length, take, drop}
use Rattle.sheet.specs.Sheet.{Sheet, IsSheet}
use Rattle.output.specs.Escape.{render}
use Rattle.runs.specs.Visits.{grammar, Env}
use Rattle.runs.specs.Taken.{Passed}
use Rattle.calls.specs.Held.{Held, fresh_held}
use Rattle.calls.specs.Call.{Result, again, Called}
use Rattle.calls.specs.Accepted.{Accepted, accepted}
use Rattle.calls.specs.Parts.{Feeds, CallOf, SameAnswer}
use Rattle.calls.proofs.Main.{accepted_iff}
use Rattle.calls.proofs.Answers.{call_one}
use Rattle.calls.proofs.Parts.{feeds_as_one, feeds_visits, feeds_held, each_call}
use Rattle.calls.proofs.Fed as of_calls
use Rattle.state.specs.Changes.{fresh_state}
use Rattle.state.specs.Meaning.{meaning_of}
use Rattle.state.specs.Bounds.{state_width}
use Rattle.state.specs.Bytes.{bytes_of, state_from}
use Rattle.state.specs.declared.State.{State}
use Rattle.state.proofs.Meant.{meaning_fresh}
use Rattle.state.proofs.Back.{state_back}
use Rattle.state.proofs.Tidy.{fresh_sized}
use Rattle.state.proofs.Widths.{fresh_wide}
use Rattle.fit.proofs.Theorems.{fresh_fit}
use Rattle.converter.specs.declared.Reply.{Reply}
use Rattle.converter.specs.Answered.{FitsSheet, closing_in, held_of, AnsweredAs, as_given, runs}
use Rattle.converter.specs.Fed.{result_of, result_in, ValueCall, BytesCall, ValueAsLent, BytesAsLent}
use Rattle.converter.specs.Promises.{CallAccepts, CallConverts, FedAccepts, FedConverts, BytesFedAccepts, BytesFedConverts, PartsAsOne, ClosedRepeats}
use Rattle.converter.proofs.BytesLaws.{bytes_state, bytes_first, as_value}
use Rattle.converter.proofs.Replies.{some_inj, given_closed, is_call, handed_back_fit, written_are, visits_held}

pub held_fresh : held_of fresh_state ≡ fresh_held
unfolding fresh_state
held_fresh = let e = meaning_fresh in λ i. record { run = e i; closing = closing_in fresh_state.closed }

-- where a cut changes the number, all else is the same
pub same_visits : (whole : List ℕ) (x y : Result) → SameAnswer whole x y → x.held.run.store.env.count ≡ y.held.run.store.env.count
same_visits whole x y (inl q) = ap (λ (r : Result). r.held.run.store.env.count) (sym q)
same_visits whole x y (inr c) = ap (λ (r : Result). r.held.run.store.env.count) (sym c.is)

pub same_rest : (whole : List ℕ) (x y : Result) → SameAnswer whole x y → (y.taken ≡ x.taken) × (y.output ≡ x.output)
same_rest whole x y (inl q) = (ap (λ (r : Result). r.taken) q, ap (λ (r : Result). r.output) q)
same_rest whole x y (inr c) = (ap (λ (r : Result). r.taken) c.is, ap (λ (r : Result). r.output) c.is)

-- what a call leaves of the memory that is lent to it
pub value_as_lent : {s : List ℕ} (part : List ℕ) (more : Bool) (room : ℕ) (z z' : State) (x : Result) (v : ℕ) (c : ValueCall s part more room z z' x v) →
    ValueAsLent s part more room z z' x v c
value_as_lent part more room z z' x v c =
    let k = written_are c.answered x.output (sym (ap (λ (y : Result). y.output) c.result)) in
    record { is_written = k.0; left = k.1 }

-- a call whose state is bytes is one with the state that they are
bytes_value : {s part : List ℕ} {more : Bool} {room : ℕ} {b b' : List ℕ} {x : Result} {v : ℕ} → length b ≡ state_width → BytesCall s part more room b b' x v →
    ValueCall s part more room (state_from b) (state_from b') x v
unfolding meaning_of
bytes_value {b' = b'} h c =
    let A = as_value h c.answered in
    let r = A.reply in
    let e : result_in c.after b' c.counts ≡ result_of c.after r =
    same_result A.counts.number A.counts.taken (ap (λ (n : ℕ). take n c.after) A.counts.written) (ap held_of A.reads_back) in
    record {
      lent = c.lent;
      after = c.after;
      ended = c.ended;
      reply = r;
      answered = A.answered;
      told = c.told;
      as_long = c.as_long;
      state = sym A.reads_back;
      result = c.result ∙ e;
      visits = c.visits ∙ A.counts.visits ∙ sym (visits_held A.answered);
    }
  where
    same_result : {n m t u : ℕ} {o p : List ℕ} {h k : Held} → n ≡ m → t ≡ u → o ≡ p → h ≡ k →
        ◌≡◌ {A = Result} (record { number = n; taken = t; output = o; held = h }) (record { number = m; taken = u; output = p; held = k })
    same_result p q r s = λ i. record { number = p i; taken = q i; output = r i; held = s i }

pub bytes_as_lent : {s : List ℕ} (part : List ℕ) (more : Bool) (room : ℕ) (b b' : List ℕ) (x : Result) (v : ℕ) (c : BytesCall s part more room b b' x v) →
    BytesAsLent s part more room b b' x v c
bytes_as_lent part more room b b' x v c =
    let k = bytes_first c.answered in
    let o = ap (λ (y : Result). y.output) c.result in
    let n : c.counts.written ≡ length x.output = k.0 ∙ ap length (sym o) in
    record { is_written = n; left = k.1 ∙ ap₂ (λ (l : List ℕ) (n : ℕ). l ++ drop n c.lent) (sym o) n }

module _ {s : List ℕ} {a : Sheet} (i : IsSheet s a) (ok : Passed a) where
  abbrev Good : List ℕ → Type 0
  Good b = (length b ≡ state_width) × FitsSheet a (state_from b)

  module _ {part lent after : List ℕ} {r : Reply} (w : AnsweredAs s fresh_state part true lent after r) where
    from_fresh : Called a part false (length lent) fresh_held (result_of after r)
    from_fresh =
        subst (λ (h : Held). Called a part false (length lent) h (result_of after r)) held_fresh
        (is_call i ok (fresh_fit (grammar a) a.start_nonterminal) w)

    is_accepted : (v : Env) → Accepted a part v → length (render v.out) ≤ length lent → result_of after r ≡ accepted part v
    is_accepted v x f =
        call_one a part false (length lent) fresh_held (result_of after r) (accepted part v) from_fresh ((accepted_iff a ok part (length lent) (accepted part v)).1 (v, (x, f, refl))).0

  -- demand 2, of the code
  pub accepted_exactly : CallAccepts s a
  accepted_exactly part lent after r w = (
    (λ e. let (v, (x, f, q)) = (accepted_iff a ok part (length lent) (result_of after r)).0 (from_fresh w, e) in (v, (x, f))),
    (λ h. ap (λ (x : Result). x.number) (is_accepted w h.0 h.1.0 h.1.1)),
  )

  pub converted : CallConverts s a
  converted part lent after r w v x f =
      let e = is_accepted w v x f in
      let o : take r.written after ≡ render v.out = ap (λ (y : Result). y.output) e in
      let k = written_are w (render v.out) o in
      record {
        taken = ap (λ (y : Result). y.taken) e;
        written = k.0;
        left = k.1;
        visits = visits_held w ∙ ap (λ (y : Result). y.held.run.store.env.count) e;
      }

  -- a call of the code is one of the definition, on what is held
  value_call : (part : List ℕ) (more : Bool) (room : ℕ) (z z' : State) (x : Result) (v : ℕ) → FitsSheet a z → ValueCall s part more room z z' x v →
      CallOf a part more room (held_of z) (held_of z') x v × FitsSheet a z'
  value_call part more room z z' x v f c =
      let w = c.answered in (
        record {
          called = subst (Called a part more room (held_of z)) (sym c.result)
              (subst (λ (n : ℕ). Called a part more n (held_of z) (result_of c.after c.reply)) c.as_long
              (subst (λ (b : Bool). Called a part b (length c.lent) (held_of z) (result_of c.after c.reply)) c.told (is_call i ok f w)));
          handed_back = ap (λ (y : Result). y.held) c.result ∙ ap held_of c.state;
          visits = c.visits ∙ visits_held w ∙ sym (ap (λ (y : Result). y.held.run.store.env.count) c.result);
        },
        subst (FitsSheet a) c.state (handed_back_fit i ok f w),
      )

  pub feeds_value : {more : Bool} {whole : List ℕ} {room : ℕ} {z : State} {x : Result} {v : ℕ} → FitsSheet a z → Feeds (ValueCall s) more whole room z x v →
      Feeds (CallOf a) more whole room (held_of z) x v
  feeds_value f d = feeds_held a held_of (FitsSheet a) value_call f d

  -- so a stream from the fresh state, fed in whatever parts and rooms, is answered with 0 in the end exactly when it is accepted and its output has room
  -- in all that is lent; and then all is as the tree says
  pub fed_fresh : {more : Bool} {whole : List ℕ} {room : ℕ} {x : Result} {v : ℕ} → Feeds (ValueCall s) more whole room fresh_state x v → Feeds (CallOf a) more whole room fresh_held x v
  fed_fresh {more} {whole} {room} {x} {v} d =
      subst (λ (h : Held). Feeds (CallOf a) more whole room h x v) held_fresh (feeds_value (fresh_fit (grammar a) a.start_nonterminal) d)

  pub fed_converted : FedConverts s a
  fed_converted whole room x v d e y f = (of_calls.fed_converted ok (fed_fresh d) e y f, each_call (ValueAsLent s) value_as_lent d)

  pub fed_accepted : FedAccepts s a
  fed_accepted whole room x v d = of_calls.fed_accepted ok (fed_fresh d)

  -- the same where the state is bytes, from those of the fresh state
  bytes_call : (part : List ℕ) (more : Bool) (room : ℕ) (b b' : List ℕ) (x : Result) (v : ℕ) → Good b → BytesCall s part more room b b' x v →
      CallOf a part more room (held_of (state_from b)) (held_of (state_from b')) x v × Good b'
  bytes_call part more room b b' x v g c =
      let k = value_call part more room (state_from b) (state_from b') x v g.1 (bytes_value g.0 c) in
      (k.0, (bytes_state g.0 c.answered, k.1))

  pub bytes_fresh : {more : Bool} {whole : List ℕ} {room : ℕ} {x : Result} {v : ℕ} → Feeds (BytesCall s) more whole room (bytes_of fresh_state) x v →
      Feeds (CallOf a) more whole room fresh_held x v
  bytes_fresh {more} {whole} {room} {x} {v} d =
      let e = state_back fresh_state fresh_sized in
      subst (λ (h : Held). Feeds (CallOf a) more whole room h x v) (ap held_of e ∙ held_fresh)
      (feeds_held a (λ (b : List ℕ). held_of (state_from b)) Good bytes_call (fresh_wide, subst (FitsSheet a) (sym e) (fresh_fit (grammar a) a.start_nonterminal)) d)

  pub bytes_fed_converted : BytesFedConverts s a
  bytes_fed_converted whole room x v d e y f = (of_calls.fed_converted ok (bytes_fresh d) e y f, each_call (BytesAsLent s) bytes_as_lent d)

  pub bytes_fed_accepted : BytesFedAccepts s a
  bytes_fed_accepted whole room x v d = of_calls.fed_accepted ok (bytes_fresh d)

  -- a stream in parts gives what one call gives, but for a reference by number that a part has cut off
  pub parts_as_one : PartsAsOne s a
  parts_as_one ended whole lent after z x v r f d w =
      let t = feeds_value f d in
      let o = feeds_as_one a (not ended) t in
      let e = call_one a whole (not ended) (length lent) (held_of z) o.answer (result_of after r) o.called (is_call i ok f w) in
      let k = subst (SameAnswer whole x) e o.same in
      (k, feeds_visits a (not ended) t ∙ same_visits whole x (result_of after r) k ∙ sym (visits_held w))

  pub closed_repeats : ClosedRepeats s a
  closed_repeats z part ended lent after r n f c (as_given g k v) = let (m, e, q) = given_closed i ok f g in (q ∙ ap again (some_inj (sym e ∙ c)), k)
  closed_repeats z part ended lent after r n f c (runs w v) = absurd (none_some n (sym w.is_open ∙ c))
