-- What is taken of a record holds neither byte string past the record's own start: a `<` is the first byte of a token, and inside a record either string is a token that is refused.
-- Assumes nothing.
use mathlib.Core.Path.{◌≡◌, refl, sym, ap, ◌∙◌, subst}
use mathlib.Core.Bool.{Bool, true, false}
use mathlib.Core.List.{List, [], ◌∷◌, ◌++◌}
use Prim.Native.Nat.{ℕ, ◌≤◌, ◌<◌}
use native.Mathlib.Omega.{arith}
use lib.Dec.{ltb}
use lib.ListN.{length, take, drop, length-take, length-drop, take-append-drop}
use borrow.Author.Tests.{ltb-true, ltb-false}
use Rattle.tokens.specs.declared.Event.{Event}
use Rattle.tokens.specs.declared.Answer.TheVariants.{Token}
use Rattle.tokens.specs.Stream.{ReadAs}
use Rattle.sheet.specs.Sheet.{Sheet}
use Rattle.runs.specs.Fits.{NamesFit}
use Rattle.runs.specs.Machine.{Configuration}
use Rattle.runs.proofs.Execute.{both_true}
use Rattle.calls.specs.Names.{token_of}
use Rattle.calls.specs.Limits.{taken, one_token}
use Rattle.calls.specs.Call.{room_left}
use Rattle.salvage.specs.Shape.{RecordTags, OfShape}
use Rattle.salvage.specs.Resumption.{MayResume}
use Rattle.salvage.specs.Salvage.{root_only, starts_with, RecordAt, RecordEnd, InRecord, goes_on, ends, breaks, LostStretch}
use Rattle.salvage.specs.NeverSent.{ComesTo, there, passes_on, keeps_on, drops_on}
use Rattle.salvage.specs.TakenOf.{taken_to, TakenHoldsNeither}
use Rattle.salvage.proofs.One.{stop_takes_none}
use Rattle.salvage.proofs.Main.{root_open, resumes_in}
use Rattle.salvage.proofs.Before.{token_before}
use Rattle.salvage.proofs.Inside.{Self, Fine, taken_fine}
use Rattle.salvage.proofs.Unended.{whole_fine, record_self, root_self, stops_at}
use Rattle.salvage.proofs.NeverSent.{may_open}

module _ (a : Sheet) (x : RecordTags) (fit : NamesFit a.names) (s : List ℕ) where
  -- where one stands no token is under way
  none_inside : (at : ℕ) (e : Event) (next : ℕ) → ReadAs false s at (Token e (record { at = next })) → (i : ℕ) → at < i → MayResume a x s i → next ≤ i
  none_inside at e next m i l h =
      let (u, o) = may_open a x fit (drop i s) h in
      let within = (resumes_in a x s i h).1 in
      let all : s ≡ take i s ++ 60 ∷ u = sym (take-append-drop i s) ∙ ap (λ (f : List ℕ). take i s ++ f) o in
      let n : length (take i s) ≡ i = omega (arith, length-take i s, within) in
      let k = token_before a (take i s) u [] at e next (subst (λ (f : List ℕ). ReadAs false f at (Token e (record { at = next }))) all m) (omega (arith, n, l)) in
      omega (arith, k, n)

  module _ (records : ℕ) (shape : OfShape a records x) (area : ℕ) where
    comes_fine : {stop at room room' : ℕ} {z z' : Configuration} {w : List ℕ} {ds : List LostStretch} → ComesTo a x s area stop at room z w ds room' z' → Fine a records x shape z.control →
        Fine a records x shape z'.control
    comes_fine there f = f
    comes_fine (passes_on {room = room} {z = z} e next y c m h k d) f = comes_fine d (taken_fine a records x shape s e z room y c k f)
    comes_fine (keeps_on to next y₁ y c h i l d) f = comes_fine d (whole_fine a records x shape s area to next y₁ y c i f)
    comes_fine (drops_on n to last y h i b q d) f = comes_fine d f

  module _ (records : ℕ) (shape : OfShape a records x) (r : Self a records x shape x.record_tag) (t : Self a records x shape x.root_tag) (area : ℕ) where
    -- a token that is taken inside a record is neither
    not_there : (at : ℕ) (y : Configuration) (room : ℕ) (e : Event) (next : ℕ) (z : Configuration) (w : List ℕ) → root_only y.control ≡ false → Fine a records x shape y.control →
        ReadAs false s at (Token e (record { at = next })) → one_token a y room (token_of a s e) ≡ taken z w → MayResume a x s at → ⊥
    not_there at y room e next z w b f m k h =
        let (n, which, stop) = stops_at a records x shape fit r t s at y b f h in
        stop_takes_none a s false at room y _ (stop room) e next z w m k

    -- and none stands from it on
    past : (at next i : ℕ) (e : Event) → ReadAs false s at (Token e (record { at = next })) → at ≤ i → MayResume a x s i → (MayResume a x s at → ⊥) → next ≤ i
    past at next i e m l h f = by (ltb at i) refl
      where
        by : (c : Bool) → ltb at i ≡ c → next ≤ i
        by true g = none_inside at e next m i (ltb-true at i g) h
        by false g = absurd (f (let j : i ≡ at = let k = ltb-false at i g in omega (arith, k, l) in subst (MayResume a x s) j h))

    none_taken : {at : ℕ} {y : Configuration} {v : List ℕ} {o : RecordEnd} → InRecord a s area at y v o → root_only y.control ≡ false → Fine a records x shape y.control →
        (i : ℕ) → at ≤ i → i < taken_to o → MayResume a x s i → ⊥
    none_taken (goes_on {at} {y} {v} e next y' w m k b' d) b f i l u h =
        none_taken d b' (taken_fine a records x shape s e y (room_left area v) y' w k f) i (past at next i e m l h (not_there at y (room_left area v) e next y' w b f m k)) u h
    none_taken (ends {at} {y} {v} e next z w m k b') b f i l u h = let j = past at next i e m l h (not_there at y (room_left area v) e next z w b f m k) in omega (arith, j, u)
    none_taken (breaks n q) b f i l u h = omega (arith, l, u)

    none_past : {at : ℕ} {y : Configuration} {v : List ℕ} {o : RecordEnd} → InRecord a s area at y v o → Fine a records x shape y.control → (i : ℕ) → at < i → i < taken_to o → MayResume a x s i → ⊥
    none_past (goes_on {at} {y} {v} e next y' w m k b' d) f i l u h = none_taken d b' (taken_fine a records x shape s e y (room_left area v) y' w k f) i (none_inside at e next m i l h) u h
    none_past (ends {at} e next z w m k b') f i l u h = let j = none_inside at e next m i l h in omega (arith, j, u)
    none_past (breaks n q) f i l u h = omega (arith, l, u)

-- what is taken of a record holds neither
pub taken_holds_neither : (a : Sheet) (x : RecordTags) → TakenHoldsNeither a x
taken_holds_neither a x fit records shape s area room at w ds room' z come h o d i l u m =
    let b = (both_true (root_only z.control) (starts_with x.record_tag (token_of a s h.event)) h.begins).1 in
    let r = record_self a records x shape s at h.event h.next h.reads b in
    let f = comes_fine a x fit s records shape area come tt in
    let t = root_self a records x shape z.control (root_open a x s at z h) f in
    none_past a x fit s records shape r t area d f i l u m
