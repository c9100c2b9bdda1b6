-- A call has an answer, and one only. At each place something is read (`some_read`), and one thing only (`read_one` of the tokens), and what a token
-- comes to is a function, so each way that a run can go on is decided there (`split`); every token taken leaves fewer bytes.
-- Assumes nothing.
use mathlib.Core.Path.{◌≡◌, refl, sym, ap, ◌∙◌, subst}
use mathlib.Core.Bool.{Bool, true, false}
use mathlib.Core.List.{List, []}
use mathlib.Core.Option.{Option, none, some}
use Prim.Native.Nat.{ℕ, zero, suc, ◌+◌, ◌-◌, ◌≤◌, ◌<◌}
use native.Mathlib.Omega.{arith}
use lib.ListN.{length, drop}
use Rattle.tokens.specs.declared.Answer.{Answer}
use Rattle.tokens.specs.declared.Answer.TheVariants.{Token, Waiting, Begun, Bad, Long}
use Rattle.sheet.specs.Sheet.{Sheet}
use Rattle.runs.specs.Machine.{Control, Configuration}
use Rattle.calls.specs.Names.{token_of}
use Rattle.calls.specs.Limits.{Taking, taken, refuses, no_room, one_token}
use Rattle.calls.specs.Held.{Held}
use Rattle.tokens.specs.Stream.{ReadAs}
use Rattle.calls.specs.Call.{Result, room_left, stopped_at, after_writing, number_at, stops, full, no_token, Runs, takes, halts, again, CalledBy, Called}
use Rattle.calls.proofs.Read.{some_read, never_waits, read_moves}
use Rattle.tokens.proofs.Streams.{read_one}

module _ (a : Sheet) (part : List ℕ) (more : Bool) where
  -- how a run goes on from the token that stands at `at`, by what that comes to
  abbrev pub AfterToken : ℕ → ℕ → Configuration → ℕ → Result → Taking → Type 0
  AfterToken at room z next r (taken z' w) = (r' : Result) × Runs a part more next (room_left room w) z' r' × (r ≡ after_writing w r')
  AfterToken at room z next r (refuses n) = r ≡ stopped_at n at z
  AfterToken at room z next r no_room = r ≡ stopped_at 17 at z

  abbrev pub AfterNone : ℕ → Configuration → Result → Option ℕ → Type 0
  AfterNone at z r none = ⊥
  AfterNone at z r (some n) = r ≡ stopped_at n at z

  -- and by what the reader answers there
  abbrev pub GoesOn : ℕ → ℕ → Configuration → Result → Answer → Type 0
  GoesOn at room z r (Token e next) = AfterToken at room z next.at r (one_token a z room (token_of a part e))
  GoesOn at room z r (Waiting e next) = ⊥
  GoesOn at room z r Begun = AfterNone at z r (number_at more (length (drop at part)) z.control Begun)
  GoesOn at room z r Bad = AfterNone at z r (number_at more (length (drop at part)) z.control Bad)
  GoesOn at room z r Long = AfterNone at z r (number_at more (length (drop at part)) z.control Long)

  none≢some : (n : ℕ) → ◌≡◌ {A = Option ℕ} none (some n) → ⊥
  none≢some n e = let y : ◌≡◌ {A = ℕ} 0 1 = cc in omega arith

  by_number : (at room : ℕ) (z : Configuration) (r : Result) (x : Answer) (n : ℕ) → number_at more (length (drop at part)) z.control x ≡ some n →
      r ≡ stopped_at n at z → GoesOn at room z r x
  by_number at room z r (Token e next) n q p = absurd (none≢some n q)
  by_number at room z r (Waiting e next) n q p = absurd (none≢some n q)
  by_number at room z r Begun n q p = subst (AfterNone at z r) (sym q) p
  by_number at room z r Bad n q p = subst (AfterNone at z r) (sym q) p
  by_number at room z r Long n q p = subst (AfterNone at z r) (sym q) p

  pub to_number : (at room : ℕ) (z : Configuration) (r : Result) (x : Answer) (n : ℕ) → number_at more (length (drop at part)) z.control x ≡ some n →
      GoesOn at room z r x → r ≡ stopped_at n at z
  to_number at room z r (Token e next) n q p = absurd (none≢some n q)
  to_number at room z r (Waiting e next) n q p = absurd (none≢some n q)
  to_number at room z r Begun n q p = subst (AfterNone at z r) q p
  to_number at room z r Bad n q p = subst (AfterNone at z r) q p
  to_number at room z r Long n q p = subst (AfterNone at z r) q p

  own : {at room : ℕ} {z : Configuration} {r : Result} → Runs a part more at room z r → (x : Answer) × ReadAs more part at x × GoesOn at room z r x
  own (takes {at} {room} {z} {r} e next z' w m t d) =
      (Token e (record { at = next }), m, subst (AfterToken at room z next (after_writing w r)) (sym t) (r, d, refl))
  own (halts {at} {room} {z} (stops e next n m t)) = (Token e (record { at = next }), m, subst (AfterToken at room z next (stopped_at n at z)) (sym t) refl)
  own (halts {at} {room} {z} (full e next m t)) = (Token e (record { at = next }), m, subst (AfterToken at room z next (stopped_at 17 at z)) (sym t) refl)
  own (halts {at} {room} {z} (no_token x n m q)) = (x, m, by_number at room z (stopped_at n at z) x n q refl)

  -- a run goes on as the reader's answer says
  pub split : {at room : ℕ} {z : Configuration} {r : Result} → Runs a part more at room z r → (x : Answer) → ReadAs more part at x → GoesOn at room z r x
  split {at} {room} {z} {r} d x m = let o = own d in subst (GoesOn at room z r) (read_one more part at o.0 x o.1 m) o.2

  pub one_run : {at room : ℕ} {z : Configuration} {r r' : Result} → Runs a part more at room z r → Runs a part more at room z r' → r ≡ r'
  one_run {r' = r'} (takes {at} {room} {z} e next z' w m t d) d' =
      let i = subst (AfterToken at room z next r') t (split d' (Token e (record { at = next })) m) in
      ap (after_writing w) (one_run d i.1) ∙ sym i.2
  one_run {r' = r'} (halts {at} {room} {z} (stops e next n m t)) d' = sym (subst (AfterToken at room z next r') t (split d' (Token e (record { at = next })) m))
  one_run {r' = r'} (halts {at} {room} {z} (full e next m t)) d' = sym (subst (AfterToken at room z next r') t (split d' (Token e (record { at = next })) m))
  one_run {r' = r'} (halts {at} {room} {z} (no_token x n m q)) d' = sym (to_number at room z r' x n q (split d' x m))

  -- the number where a token is only begun
  begun_number : (left : ℕ) (c : Control) → (n : ℕ) × (number_at more left c Begun ≡ some n)
  begun_number left c = by more left
    where
      by : (b : Bool) (l : ℕ) → (n : ℕ) × (number_at b l c Begun ≡ some n)
      by true l = (16, refl)
      by false zero = (_, refl)
      by false (suc l) = (27, refl)

  module _ (at : ℕ) (rest : (next : ℕ) → at < next → next ≤ length part → (room : ℕ) (z : Configuration) → (r : Result) × Runs a part more next room z r) where
    from_token : (room : ℕ) (z : Configuration) (e : _) (next : ℕ) → ReadAs more part at (Token e (record { at = next })) → at ≤ length part →
        (t : Taking) → one_token a z room (token_of a part e) ≡ t → (r : Result) × Runs a part more at room z r
    from_token room z e next m h (taken z' w) t =
        let k = read_moves more part at e next m h in
        let i = rest next k.0 k.1 (room_left room w) z' in
        (after_writing w i.0, takes e next z' w m t i.1)
    from_token room z e next m h (refuses n) t = (stopped_at n at z, halts (stops e next n m t))
    from_token room z e next m h no_room t = (stopped_at 17 at z, halts (full e next m t))

    from_answer : (room : ℕ) (z : Configuration) → at ≤ length part → (x : Answer) → ReadAs more part at x → (r : Result) × Runs a part more at room z r
    from_answer room z h (Token e next) m = from_token room z e next.at m h (one_token a z room (token_of a part e)) refl
    from_answer room z h (Waiting e next) m = absurd (never_waits more part at e next m)
    from_answer room z h Begun m =
        let b = begun_number (length (drop at part)) z.control in
        (stopped_at b.0 at z, halts (no_token Begun b.0 m b.1))
    from_answer room z h Bad m = (stopped_at 20 at z, halts (no_token Bad 20 m refl))
    from_answer room z h Long m = (stopped_at 21 at z, halts (no_token Long 21 m refl))

  runs_on : (left at : ℕ) → at ≤ length part → length part ≤ at + left → (room : ℕ) (z : Configuration) → (r : Result) × Runs a part more at room z r
  runs_on zero at h l room z = let x = some_read more part at in from_answer at (λ next i j room' z'. absurd (omega arith)) room z h x.0 x.1
  runs_on (suc left) at h l room z =
      let x = some_read more part at in
      from_answer at (λ next i j room' z'. runs_on left next j (omega arith) room' z') room z h x.0 x.1

  -- any two answers of a call are equal
  by_closing : (room : ℕ) (z : Configuration) (c : Option ℕ) (r r' : Result) → CalledBy a part more room z c r → CalledBy a part more room z c r' → r ≡ r'
  by_closing room z none r r' d d' = one_run d d'
  by_closing room z (some n) r r' d d' = d ∙ sym d'

  pub call_one : (room : ℕ) (h : Held) (r r' : Result) → Called a part more room h r → Called a part more room h r' → r ≡ r'
  call_one room h r r' d d' = by_closing room h.run h.closing r r' d d'

  -- and it has one
  pub call_some : (room : ℕ) (h : Held) → (r : Result) × Called a part more room h r
  call_some room h = by h.closing
    where
      by : (c : Option ℕ) → (r : Result) × CalledBy a part more room h.run c r
      by none = runs_on (length part) 0 (omega arith) (omega arith) room h.run
      by (some n) = (record { number = again n; taken = 0; output = []; held = record { run = h.run; closing = some n } }, refl)
