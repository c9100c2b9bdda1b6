-- Calls are answered alike from what is alike: with the same number, bytes taken, output and visits.
-- Assumes nothing.
use mathlib.Core.Path.{◌≡◌, refl, sym, ap, ◌∙◌, subst}
use mathlib.Core.Bool.{Bool}
use mathlib.Core.List.{List, [], ◌∷◌, ◌++◌}
use mathlib.Core.Option.{Option, none, some}
use Prim.Native.Nat.{ℕ, ◌≤◌}
use native.Mathlib.Omega.{arith}
use lib.ListN.{length, drop}
use Rattle.tokens.specs.declared.Event.{Event}
use Rattle.tokens.specs.declared.Answer.{Answer}
use Rattle.programs.specs.Bounds.{Bounds, attributes_in}
use Rattle.sheet.specs.Sheet.{Sheet}
use Rattle.runs.specs.Machine.{Control, Configuration}
use Rattle.calls.specs.Names.{token_of}
use Rattle.calls.specs.Limits.{Taking, taken, refuses, no_room, one_token}
use Rattle.calls.specs.Held.{Held, handed}
use Rattle.calls.specs.Call.{Result, stopped_at, after_writing, room_left, number_at, Stop, stops, full, no_token, Runs, takes, halts, again, CalledBy, Called}
use Rattle.widening.specs.CallByCall.{Asked, Heard, heard, CallByCall, no_call, call, fresh_in}
use Rattle.widening.proofs.Alike.{zeros_alike, no_row}
use Rattle.widening.proofs.Acts.{AllFitIn}
use Rattle.widening.proofs.Steps.{States, Takings, both_taken, both_refuse, both_full, one_token_alike}

pub record Helds (top : ℕ) (h h' : Held) : Type 0 where
  pub run : States top h.run h'.run
  pub closing : h.closing ≡ h'.closing

record Results (top : ℕ) (r r' : Result) : Type 0 where
  pub number : r.number ≡ r'.number
  pub taken : r.taken ≡ r'.taken
  pub output : r.output ≡ r'.output
  pub held : Helds top r.held r'.held

-- the same of a token from one answer as from the other
taken_too : {top : ℕ} {t t' : Taking} → Takings top t t' → (z : Configuration) (w : List ℕ) → t ≡ taken z w → (z' : Configuration) × (t' ≡ taken z' w) × States top z z'
taken_too {top} (both_taken {z = y} {z' = y'} {w = v} {w' = v'} h e) z w q =
    let p : y ≡ z = cc in
    let o : v ≡ w = cc in
    (y', ap (λ (l : List ℕ). taken y' l) (sym e ∙ o), subst (λ (x : Configuration). States top x y') p h)
taken_too (both_refuse n) z w q = absurd (let x : ◌≡◌ {A = ℕ} 0 1 = cc in omega arith)
taken_too both_full z w q = absurd (let x : ◌≡◌ {A = ℕ} 0 1 = cc in omega arith)

refused_too : {top : ℕ} {t t' : Taking} → Takings top t t' → (n : ℕ) → t ≡ refuses n → t' ≡ refuses n
refused_too (both_taken h e) n q = absurd (let x : ◌≡◌ {A = ℕ} 0 1 = cc in omega arith)
refused_too (both_refuse m) n q = q
refused_too both_full n q = absurd (let x : ◌≡◌ {A = ℕ} 0 1 = cc in omega arith)

full_too : {top : ℕ} {t t' : Taking} → Takings top t t' → t ≡ no_room → t' ≡ no_room
full_too (both_taken h e) q = absurd (let x : ◌≡◌ {A = ℕ} 0 1 = cc in omega arith)
full_too (both_refuse m) q = absurd (let x : ◌≡◌ {A = ℕ} 0 1 = cc in omega arith)
full_too both_full q = refl

module _ (a : Sheet) (b : Bounds) (keeps : AllFitIn b a) where
  abbrev top : ℕ
  top = b.highest_attribute

  module _ (part : List ℕ) (more : Bool) where
    stop_alike : {at room n : ℕ} {z : Configuration} (z' : Configuration) → States top z z' → Stop a part more at room z n → Stop a part more at room z' n
    stop_alike {room = room} {z = z} z' h (stops e next n m q) = stops e next n m (refused_too (one_token_alike a b keeps room (token_of a part e) z z' h) n q)
    stop_alike {room = room} {z = z} z' h (full e next m q) = full e next m (full_too (one_token_alike a b keeps room (token_of a part e) z z' h) q)
    stop_alike {at = at} z' h (no_token x n m q) =
        no_token x n m (subst (λ (c : Control). number_at more (length (drop at part)) c x ≡ some n) h.control q)

    runs_alike : {at room : ℕ} {z : Configuration} {r : Result} (z' : Configuration) → States top z z' → Runs a part more at room z r →
        (r' : Result) × Runs a part more at room z' r' × Results top r r'
    runs_alike z' h (takes {room = room} {z = z} e next z₁ w m q d) =
        let t = taken_too (one_token_alike a b keeps room (token_of a part e) z z' h) z₁ w q in
        let i = runs_alike t.0 t.2 d in (
          after_writing w i.0,
          takes e next t.0 w m t.1 i.1,
          record { number = i.2.number; taken = i.2.taken; output = ap (λ (l : List ℕ). w ++ l) i.2.output; held = i.2.held },
        )
    runs_alike z' h (halts {at = at} {z = z} {n = n} s) =
        (stopped_at n at z', halts (stop_alike z' h s), record { number = refl; taken = refl; output = refl; held = record { run = h; closing = refl } })

    called_by : (room : ℕ) (z z' : Configuration) → States top z z' → (c : Option ℕ) (r : Result) → CalledBy a part more room z c r →
        (r' : Result) × CalledBy a part more room z' c r' × Results top r r'
    called_by room z z' h none r d = runs_alike z' h d
    called_by room z z' h (some n) r e =
        let r' : Result = record { number = again n; taken = 0; output = []; held = record { run = z'; closing = some n } } in
        (r', refl, subst (λ (x : Result). Results top x r') (sym e) (record { number = refl; taken = refl; output = refl; held = record { run = h; closing = refl } }))

    called_alike : (room : ℕ) (h h' : Held) → Helds top h h' → (r : Result) → Called a part more room h r → (r' : Result) × Called a part more room h' r' × Results top r r'
    called_alike room h h' g r d =
        subst (λ (c : Option ℕ). (r' : Result) × CalledBy a part more room h'.run c r' × Results top r r') g.closing
        (called_by room h.run h'.run g.run h.closing r d)

  heard_alike : (r r' : Result) → Results top r r' → heard r ≡ heard r'
  heard_alike r r' g = λ i. record { number = g.number i; taken = g.taken i; output = g.output i; visits = g.held.run.store.env.count i }

  pub calls_alike : {h : Held} {qs : List Asked} {hs : List Heard} (h' : Held) → Helds top h h' → CallByCall a h qs hs → CallByCall a h' qs hs
  calls_alike h' g no_call = no_call
  calls_alike h' g (call {h = h} {qs = qs} {hs = hs} q r c d) =
      let i = called_alike q.part q.more q.room h h' g r c in
      subst (λ (x : Heard). CallByCall a h' (q ∷ qs) (x ∷ hs)) (sym (heard_alike r i.0 i.2)) (call q i.0 i.1 (calls_alike i.0.held i.2.held d))

-- two fresh states, each with every attribute up to the highest
pub fresh_alike : (top : ℕ) (b b' : Bounds) → top ≤ b.highest_attribute → top ≤ b'.highest_attribute → Helds top (fresh_in b) (fresh_in b')
fresh_alike top b b' h k = record {
  run = record {
    control = refl;
    store = record {
      kept = no_row;
      env = record { values = zeros_alike top (attributes_in b) (attributes_in b') (omega arith) (omega arith); echo = refl; out = refl; count = refl };
    };
  };
  closing = refl;
}
