-- What a call hands back, to the byte: the one state that holds what is held. A call that takes nothing changes nothing but the closing number (`not_taken`),
-- and so a bad token does; where the state stays open, its bytes are as they were (`bytes_not_taken`).
-- Assumes nothing.
use mathlib.Core.Path.{◌≡◌, refl, sym, ap, ap₂, ◌∙◌, subst}
use mathlib.Core.Bool.{Bool, true, false, not, cond}
use mathlib.Core.List.{List}
use mathlib.Core.Option.{Option}
use Prim.Native.Nat.{ℕ, ◌≤◌}
use native.Mathlib.Omega.{arith}
use lib.ListN.{length}
use Rattle.calls.proofs.Read.{read_moves}
use Rattle.sheet.specs.Sheet.{Sheet}
use Rattle.runs.specs.Machine.{Configuration as Run}
use Rattle.calls.specs.Held.{leaves_open, closing_of, handed}
use Rattle.calls.specs.Call.{Result, Runs, takes, halts, CalledBy}
use Rattle.state.specs.Changes.{not_closed, fresh_state, closed_with}
use Rattle.state.specs.Canonical.{state_for}
use Rattle.state.specs.Meaning.{meaning_of}
use Rattle.state.specs.Bytes.{bytes_of, state_from}
use Rattle.state.specs.declared.State.{State}
use Rattle.state.proofs.Meant.{meaning_fresh}
use Rattle.state.proofs.Back.{state_back}
use Rattle.state.proofs.Tidy.{fresh_for, closing_for, fresh_sized}
use Rattle.converter.specs.declared.Reply.{Reply}
use Rattle.converter.specs.declared.Counts.{Counts}
use Rattle.converter.specs.Answered.{held_of, closing_byte, state_of, Canonical, Ran}
use Rattle.converter.specs.Inner.{left_with}
use Rattle.converter.specs.Bytes.{CanonicalBytes, BytesAnsweredAs, as_given as bytes_given, runs as bytes_run}

-- the place where a run stops lies behind the one where it began, unless it took nothing: then it hands back what it began with
taken_past : {a : Sheet} {part : List ℕ} {more : Bool} {at room : ℕ} {z : Run} {r : Result} → at ≤ length part → Runs a part more at room z r → at ≤ r.taken
taken_past {part = part} {more} h (takes {at} e next z' w m t d) =
    let k = read_moves more part at e next m h in
    omega (arith, k.0, taken_past k.1 d)
taken_past h (halts x) = omega arith

held_there : {a : Sheet} {part : List ℕ} {more : Bool} {at room : ℕ} {z : Run} {r : Result} → at ≤ length part → Runs a part more at room z r → r.taken ≡ at →
    r.held ≡ handed r.number z
held_there {part = part} {more} h (takes {at} e next z' w m t d) q =
    let k = read_moves more part at e next m h in
    absurd (omega (arith, k.0, taken_past k.1 d, q))
held_there h (halts x) q = refl

module _ {s : List ℕ} {z : State} {part : List ℕ} {ended : Bool} {lent after : List ℕ} {r : Reply} where
  pub ran_canonical : Ran s z part ended lent after r → Canonical r.state
  ran_canonical w = w.state ∙ ap state_of (sym w.held)

  held_nothing : (w : Ran s z part ended lent after r) → r.taken ≡ 0 → w.answer.held ≡ handed r.number (meaning_of z)
  held_nothing w q =
      held_there (omega arith)
      (subst (λ (c : Option ℕ). CalledBy w.sheet part (not ended) (length lent) (meaning_of z) c w.answer) w.is_open w.called)
      (sym w.taken ∙ q)
      ∙ ap (λ (n : ℕ). handed n (meaning_of z)) (sym w.number)

  left_open : (w : Ran s z part ended lent after r) → r.taken ≡ 0 → leaves_open r.number ≡ true → r.state ≡ state_of (held_of z)
  left_open w q o =
      w.state
      ∙ ap state_of (held_nothing w q ∙ ap (λ (c : Option ℕ). record { run = meaning_of z; closing = c }) (ap (λ (b : Bool). closing_of b r.number) o ∙ sym w.is_open))

  left_closed : (w : Ran s z part ended lent after r) → r.taken ≡ 0 → leaves_open r.number ≡ false → r.state ≡ closed_with (state_of (held_of z)) r.number
  left_closed w q o =
      w.state ∙ ap state_of (held_nothing w q ∙ ap (λ (c : Option ℕ). record { run = meaning_of z; closing = c }) (ap (λ (b : Bool). closing_of b r.number) o))
      ∙ closing_for (meaning_of z) (closing_byte (held_of z).closing) r.number

  -- a call that runs and takes nothing, as where the first token is bad: 16 and 17 hand the state back as it was, any other number is put into it and
  -- changes nothing else
  pub not_taken : Canonical z → Ran s z part ended lent after r → r.taken ≡ 0 → r.state ≡ left_with r.number z
  not_taken e w q = by (leaves_open r.number) refl
    where
      by : (b : Bool) → leaves_open r.number ≡ b → r.state ≡ cond b z (closed_with z r.number)
      by true o = left_open w q o ∙ sym e
      by false o = left_closed w q o ∙ ap (λ (y : State). closed_with y r.number) (sym e)

-- a fresh state is of the form in which states are handed back, and so are its bytes
pub fresh_canonical : Canonical fresh_state
unfolding fresh_state
fresh_canonical = fresh_for ∙ ap (λ (m : Run). state_for m not_closed) (sym meaning_fresh)

pub fresh_bytes : CanonicalBytes (bytes_of fresh_state)
fresh_bytes = ap bytes_of (fresh_canonical ∙ ap (λ (z : State). state_of (held_of z)) (sym (state_back fresh_state fresh_sized)))

module _ {s b b' part : List ℕ} {ended : Bool} {lent after : List ℕ} {r : Counts} where
  pub bytes_canonical : CanonicalBytes b → BytesAnsweredAs s b b' part ended lent after r → CanonicalBytes b'
  bytes_canonical e (bytes_given g u) = subst CanonicalBytes (sym u.same) e
  bytes_canonical e (bytes_run i q w c x y) = x ∙ ap bytes_of (ran_canonical w ∙ ap (λ (z : State). state_of (held_of z)) (sym y))

  -- a part of which nothing is taken leaves every byte of an open state as it was
  pub bytes_not_taken : CanonicalBytes b → BytesAnsweredAs s b b' part ended lent after r → r.taken ≡ 0 → leaves_open r.number ≡ true → b' ≡ b
  bytes_not_taken e (bytes_given g u) t o = u.same
  bytes_not_taken e (bytes_run i q w c x y) t o = x ∙ ap bytes_of (left_open w (sym c.taken ∙ t) (ap leaves_open (sym c.number) ∙ o)) ∙ sym e
