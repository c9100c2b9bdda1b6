-- Demand 2 for a stream in whatever parts and rooms, of any calls that are the definition's: 0 in the end exactly when the stream is accepted and its output
-- has room in all that is lent; and then all is as the tree says.
-- Assumes nothing.
use mathlib.Core.Path.{◌≡◌, refl, sym, ap, ◌∙◌}
use mathlib.Core.Logic.{inl, inr, ◌↔◌}
use mathlib.Core.Bool.{false}
use mathlib.Core.List.{List}
use Prim.Native.Nat.{ℕ, ◌≤◌}
use native.Mathlib.Omega.{arith}
use lib.ListN.{length}
use Rattle.sheet.specs.Sheet.{Sheet}
use Rattle.output.specs.Escape.{render}
use Rattle.runs.specs.Visits.{Env}
use Rattle.runs.specs.Taken.{Passed}
use Rattle.calls.specs.Held.{fresh_held}
use Rattle.calls.specs.Call.{Result}
use Rattle.calls.specs.Accepted.{Accepted, accepted}
use Rattle.calls.specs.Parts.{Feeds, CallOf, SameAnswer, FedAccepted}
use Rattle.calls.proofs.Answers.{call_one}
use Rattle.calls.proofs.Main.{accepted_iff}
use Rattle.calls.proofs.Parts.{OneCall, feeds_as_one, feeds_visits}

module _ {a : Sheet} (ok : Passed a) {whole : List ℕ} {room : ℕ} {x : Result} {v : ℕ} (d : Feeds (CallOf a) false whole room fresh_held x v) where
  one : OneCall a whole false room fresh_held x
  one = feeds_as_one a false d

  -- 0 is the one call's, where it is the parts', and back
  same_zero : one.answer.number ≡ 0 → one.answer ≡ x
  same_zero z = by one.same
    where
      by : SameAnswer whole x one.answer → one.answer ≡ x
      by (inl q) = q
      by (inr c) = absurd (omega (arith, z, ap (λ (r : Result). r.number) c.is))

  zero_same : x.number ≡ 0 → one.answer ≡ x
  zero_same z = by one.same
    where
      by : SameAnswer whole x one.answer → one.answer ≡ x
      by (inl q) = q
      by (inr c) = absurd (omega (arith, z, c.number))

  pub fed_converted : (e : Env) → Accepted a whole e → length (render e.out) ≤ room → FedAccepted whole e x v
  fed_converted e y f =
      let q = call_one a whole false room fresh_held one.answer (accepted whole e) one.called ((accepted_iff a ok whole room (accepted whole e)).1 (e, (y, f, refl))).0 in
      let p : x ≡ accepted whole e = sym (same_zero (ap (λ (r : Result). r.number) q)) ∙ q in
      record { answer = p; visits = feeds_visits a false d ∙ ap (λ (r : Result). r.held.run.store.env.count) p }

  pub fed_accepted : (x.number ≡ 0) ↔ ((e : Env) × (Accepted a whole e × (length (render e.out) ≤ room)))
  fed_accepted = (
    (λ n. let (e, (y, f, q)) = (accepted_iff a ok whole room one.answer).0 (one.called, ap (λ (r : Result). r.number) (zero_same n) ∙ n) in (e, (y, f))),
    (λ h. ap (λ (r : Result). r.number) (fed_converted h.0 h.1.0 h.1.1).answer),
  )
