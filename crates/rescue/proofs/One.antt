-- A call of the salvage run has one answer: at each place one thing is read or passed over, and what that comes to is a function.
-- Assumes nothing.
use mathlib.Core.Path.{◌≡◌, refl, sym, ap, ap₂, ◌∙◌, subst}
use mathlib.Core.Bool.{true, true≢false}
use mathlib.Core.List.{List}
use mathlib.Core.Option.{Option, none, some}
use Prim.Native.Nat.{ℕ}
use native.Mathlib.Omega.{arith}
use lib.ListN.{length, drop}
use Rattle.tokens.specs.declared.Event.{Event}
use Rattle.tokens.specs.declared.Answer.{Answer}
use Rattle.tokens.specs.declared.Answer.TheVariants.{Token}
use Rattle.tokens.specs.Stream.{ReadAs}
use Rattle.tokens.proofs.Streams.{read_one}
use Rattle.sheet.specs.Sheet.{Sheet}
use Rattle.runs.specs.Machine.{Configuration}
use Rattle.calls.specs.Names.{token_of}
use Rattle.calls.specs.Call.{room_left, number_at}
use Rattle.salvage.specs.Shape.{RecordTags}
use Rattle.salvage.specs.Resumption.{record_start, root_end}
use Rattle.salvage.specs.Salvage.{LostStretch}
use Rattle.salvage.proofs.One.{read_same}
use Rattle.rescue.specs.Held.{Mode, skipping, reads_tokens, control_of, run_of, Rescued}
use Rattle.rescue.specs.Step.{Setting, Step, on, stop, reported, token_step, number_step, skip_step, skip_to, StepIs, at_token, at_none, at_bytes}
use Rattle.rescue.specs.Call.{halted, after_step, spare_left, Rescues, goes, halts, RescuedBy}
use Rattle.rescue.specs.Promises.{OneRescue}
use Rattle.rescue.proofs.Resumed.{one_resumed}

none≢some : (n : ℕ) → ◌≡◌ {A = Option ℕ} none (some n) → ⊥
none≢some n e = let y : ◌≡◌ {A = ℕ} 0 1 = cc in omega arith

module _ (c : Setting) where
  -- where bytes are passed over no token is read
  no_reading : (m : Mode) (z : Configuration) (f n : ℕ) → m ≡ skipping z f n → reads_tokens m ≡ true → ⊥
  no_reading m z f n e q = true≢false (sym q ∙ ap reads_tokens e)

  pub no_number : (at : ℕ) (m : Mode) (e : Event) (next : ℕ) (x : Answer) (n : ℕ) → ReadAs c.more c.part at (Token e (record { at = next })) → ReadAs c.more c.part at x →
      number_at c.more (length (drop at c.part)) (control_of m) x ≡ some n → ⊥
  no_number at m e next x n r r' q =
      let p : x ≡ Token e (record { at = next }) = read_one c.more c.part at x (Token e (record { at = next })) r' r in
      none≢some n (ap (number_at c.more (length (drop at c.part)) (control_of m)) (sym p) ∙ q)

  pub step_one : (at room spare : ℕ) (m : Mode) (t t' : Step) → StepIs c at room spare m t → StepIs c at room spare m t' → t ≡ t'
  step_one at room spare m t t' (at_token e next q r) (at_token e' next' q' r') =
      let i = read_same c.sheet c.part c.more at room (run_of m) e e' next next' r r' in
      ap₂ (λ (k : Event) (j : ℕ). reported spare at m (token_step c at room j (token_of c.sheet c.part k) m)) i.0 i.1
  step_one at room spare m t t' (at_token e next q r) (at_none x n q' r' p) = absurd (no_number at m e next x n r r' p)
  step_one at room spare m t t' (at_token e next q r) (at_bytes z f n k i h) = absurd (no_reading m z f n i q)
  step_one at room spare m t t' (at_none x n q r p) (at_token e next q' r') = absurd (no_number at m e next x n r' r p)
  step_one at room spare m t t' (at_none x n q r p) (at_none x' n' q' r' p') =
      let e : x ≡ x' = read_one c.more c.part at x x' r r' in
      let u : some n ≡ some n' = sym p ∙ ap (number_at c.more (length (drop at c.part)) (control_of m)) e ∙ p' in
      let v : n ≡ n' = cc in
      ap (λ (j : ℕ). reported spare at m (number_step c at j m)) v
  step_one at room spare m t t' (at_none x n q r p) (at_bytes z f k l i h) = absurd (no_reading m z f k i q)
  step_one at room spare m t t' (at_bytes z f n k i h) (at_token e next q r) = absurd (no_reading m z f n i q)
  step_one at room spare m t t' (at_bytes z f n k i h) (at_none x j q r p) = absurd (no_reading m z f n i q)
  step_one at room spare m t t' (at_bytes z f n k i h) (at_bytes z' f' n' k' i' h') =
      let e : skipping z f n ≡ skipping z' f' n' = sym i ∙ i' in
      let ez : z ≡ z' = cc in
      let ef : f ≡ f' = cc in
      let en : n ≡ n' = cc in
      let ek : k ≡ k' = one_resumed (record_start c.sheet c.tags) (root_end c.sheet c.tags) c.part at k k' h h' in
      λ j. reported spare (skip_to c (ek j)) m (skip_step c (ez j) (ef j) (en j) (ek j))

  on≢stop : (next : ℕ) (m : Mode) (w : List ℕ) (ds : List LostStretch) (k n to : ℕ) (m' : Mode) (ds' : List LostStretch) (k' : ℕ) → on next m w ds k ≡ stop n to m' ds' k' → ⊥
  on≢stop next m w ds k n to m' ds' k' e = let y : ◌≡◌ {A = ℕ} 0 1 = cc in omega arith

  -- how a call goes on, by its first step
  abbrev pub GoesBy : (at room spare : ℕ) → Mode → Rescued → Step → Type 0
  GoesBy at room spare m r (on next m' w ds k) = (r' : Rescued) × Rescues c next (room_left room w) (spare_left spare ds) m' r' × (r ≡ after_step w ds k r')
  GoesBy at room spare m r (stop n to m' ds k) = r ≡ halted c n to m' ds k

  pub goes_by : {at room spare : ℕ} {m : Mode} {r : Rescued} → Rescues c at room spare m r → (t : Step) → StepIs c at room spare m t → GoesBy at room spare m r t
  goes_by (goes {at} {room} {spare} {m} {r} next m' w ds k i d) t j =
      subst (GoesBy at room spare m (after_step w ds k r)) (step_one at room spare m (on next m' w ds k) t i j) (r, d, refl)
  goes_by (halts {at} {room} {spare} {m} n to m' ds k i) t j =
      subst (GoesBy at room spare m (halted c n to m' ds k)) (step_one at room spare m (stop n to m' ds k) t i j) refl

  pub rescue_one : {at room spare : ℕ} {m : Mode} {r r' : Rescued} → Rescues c at room spare m r → Rescues c at room spare m r' → r ≡ r'
  rescue_one (goes next m' w ds k i d) d' = let (r₂, d₂, q) = goes_by d' (on next m' w ds k) i in ap (after_step w ds k) (rescue_one d d₂) ∙ sym q
  rescue_one (halts n to m' ds k i) d' = sym (goes_by d' (stop n to m' ds k) i)

-- any two answers of a call are equal
pub one_rescue : (a : Sheet) (x : RecordTags) → OneRescue a x
one_rescue a x part more area room spare h r r' d d' = by h.closing d d'
  where
    by : (o : Option ℕ) → RescuedBy a x part more area room spare h o r → RescuedBy a x part more area room spare h o r' → r ≡ r'
    by none d d' = rescue_one _ d d'
    by (some n) d d' = d ∙ sym d'
