-- What holds of where a salvage run stands holds behind each step of a call: so it holds of what a call hands back.
-- Assumes nothing.
use mathlib.Core.Path.{◌≡◌, refl, sym, ap, subst}
use mathlib.Core.Bool.{Bool, true, false, cond}
use mathlib.Core.List.{List, [], ◌∷◌, ◌++◌}
use mathlib.Core.Option.{Option, none, some}
use Prim.Native.Nat.{ℕ, zero, suc, ◌+◌, ◌-◌, ◌≤◌, ◌<◌}
use native.Mathlib.Omega.{arith}
use lib.Dec.{leb}
use lib.ListN.{length, drop, length-append}
use Rattle.tokens.specs.declared.Answer.{Answer}
use Rattle.tokens.specs.declared.Answer.TheVariants.{Token, Waiting, Begun, Bad, Long}
use Rattle.sheet.specs.Sheet.{Sheet, IsSheet}
use Rattle.runs.specs.Visits.{most_visits}
use Rattle.runs.specs.Fits.{EventsFit}
use Rattle.runs.specs.Machine.{Control, before, after, Configuration, took, refused}
use Rattle.runs.specs.Machine as machine
use Rattle.runs.specs.Spells.{Token as RunToken, events_of_token, step_token}
use Rattle.runs.proofs.Execute.{both_true}
use Rattle.calls.specs.Names.{token_of}
use Rattle.calls.specs.Limits.{output_of, Taking, taken, refuses, no_room, limited, within, one_token}
use Rattle.calls.specs.Held.{leaves_open, closing_of}
use Rattle.calls.specs.Call.{room_left, number_at}
use Rattle.calls.proofs.Read.{read_moves}
use Rattle.calls.proofs.Frame.{count_of, token_number}
use Rattle.calls.proofs.Steps.{RunAnswer, takes_one}
use Rattle.steps.proofs.Onward.{event_fits}
use Rattle.converter.proofs.Going.{event_in}
use Rattle.salvage.specs.Resumption.{record_start, root_end}
use Rattle.salvage.specs.Salvage.{root_only, starts_with, begins_record, lost, damaged}
use Rattle.salvaging.specs.declared.Resumed.{Resumed}
use Rattle.salvaging.specs.declared.Resumed.TheVariants.{Here, Waits, Nowhere}
use Rattle.salvaging.specs.Resumed.{ResumedIs}
use Rattle.rescue.specs.Held.{Mode, between, inside, skipping, control_of, Rescued}
use Rattle.rescue.specs.Step.{Setting, Step, on, stop, stay, in_stream, past_first, last_byte, drops_at, closes_at, breaks_at, record_token, other_token, token_step, number_step, skip_step, skip_to, reported, StepIs, at_token, at_none, at_bytes}
use Rattle.rescue.specs.Call.{Rescues, goes, halts}
use Rattle.rescue.specs.Parts.{Began}
use Rattle.rescue.proofs.Some.{fine_step, past_own, past_begun}
use Rattle.handing.proofs.Canonical.{Good}
use Rattle.handing.proofs.Kept.{good_taken}

-- the numbers with which a token is refused, and those where none comes next
refuses_small : (a : Sheet) (z : Configuration) (room : ℕ) (k : RunToken) (n : ℕ) → one_token a z room k ≡ refuses n → n < 255
refuses_small a z room k n e = by (step_token a z k) refl e
  where
    by_tests : (y : Configuration) (c f : Bool) → limited y c f ≡ refuses n → n < 255
    by_tests y false f e = let h : 30 ≡ n = cc in omega (arith, h)
    by_tests y true false e = absurd (let x : ◌≡◌ {A = ℕ} 0 1 = cc in omega arith)
    by_tests y true true e = absurd (let x : ◌≡◌ {A = ℕ} 0 1 = cc in omega arith)

    by : (u : RunAnswer) → step_token a z k ≡ u → within room u ≡ refuses n → n < 255
    by (took y) t e = by_tests y (leb (count_of y) most_visits) (leb (length (output_of y)) room) e
    by (refused m) t e =
        let h : m ≡ n = cc in
        let j = token_number a z k m t in
        omega (arith, h, j.1)

number_small : (more : Bool) (left : ℕ) (c : Control) (y : Answer) (n : ℕ) → number_at more left c y ≡ some n → n < 255
number_small more left c (Token e next) n q = absurd (let z : ◌≡◌ {A = ℕ} 0 1 = cc in omega arith)
number_small more left c (Waiting e next) n q = absurd (let z : ◌≡◌ {A = ℕ} 0 1 = cc in omega arith)
number_small true left c Begun n q = let h : 16 ≡ n = cc in omega (arith, h)
number_small false zero before Begun n q = let h : 27 ≡ n = cc in omega (arith, h)
number_small false zero (machine.inside o os) Begun n q = let h : 27 ≡ n = cc in omega (arith, h)
number_small false zero after Begun n q = let h : 0 ≡ n = cc in omega (arith, h)
number_small false (suc left) c Begun n q = let h : 27 ≡ n = cc in omega (arith, h)
number_small more left c Bad n q = let h : 20 ≡ n = cc in omega (arith, h)
number_small more left c Long n q = let h : 21 ≡ n = cc in omega (arith, h)

module _ {s : List ℕ} (c : Setting) (i : IsSheet s c.sheet) where
  -- p bytes of the stream are taken
  abbrev pub HoldsAt : ℕ → Mode → Type 0
  HoldsAt p (between z) = Good i z
  HoldsAt p (inside z y f v) = Good i z × (root_only z.control ≡ true) × Good i y × (length v ≤ c.area) × (f < p)
  HoldsAt p (skipping z f n) = Good i z × (root_only z.control ≡ true) × (damaged n ≡ true) × (f < p)

  holds_later : (p q : ℕ) (m : Mode) → p ≤ q → HoldsAt p m → HoldsAt q m
  holds_later p q (between z) l h = h
  holds_later p q (inside z y f v) l (a, r, b, w, g) = (a, r, b, w, omega (arith, l, g))
  holds_later p q (skipping z f n) l (a, r, d, g) = (a, r, d, omega (arith, l, g))

  pub holds_began : (p : ℕ) (m : Mode) → HoldsAt p m → Began p m
  holds_began p (between z) h = tt
  holds_began p (inside z y f v) (a, r, b, w, g) = g
  holds_began p (skipping z f n) h = tt

  abbrev KeptBy : Step → Type 0
  KeptBy (on next m' w ds k) = HoldsAt (c.before + next) m'
  KeptBy (stop n to m' ds k) = HoldsAt (c.before + to) m' × (n < 255)

  module _ (at room : ℕ) (m : Mode) (h : HoldsAt (c.before + at) m) where
    kept_reported : (spare p : ℕ) → at ≤ p → (t : Step) → KeptBy t → KeptBy (reported spare p m t)
    kept_reported spare p l (on next m' w ds k) g = by (leb (length ds) spare)
      where
        by : (o : Bool) → KeptBy (cond o (on next m' w ds k) (stay 17 p m))
        by true = g
        by false = (holds_later (c.before + at) (c.before + p) m (omega (arith, l)) h, omega arith)
    kept_reported spare p l (stop n to m' ds k) g = by (leb (length ds) spare)
      where
        by : (o : Bool) → KeptBy (cond o (stop n to m' ds k) (stay 17 p m))
        by true = g
        by false = (holds_later (c.before + at) (c.before + p) m (omega (arith, l)) h, omega arith)

    kept_breaks : (z : Configuration) (f n : ℕ) → n < 255 → Good i z → root_only z.control ≡ true → f < c.before + past_first c f at → KeptBy (breaks_at c at m z f n)
    kept_breaks z f n b g r p = by (leaves_open n) (damaged n) refl
      where
        by : (o d : Bool) → damaged n ≡ d → KeptBy (cond o (stay n at m) (cond d (drops_at c at m z f n) (closes_at c at m z f n)))
        by true d e = (h, b)
        by false true e = (g, r, e, p)
        by false false e = (g, b)

    kept_record : (z y : Configuration) (f : ℕ) (v : List ℕ) (next : ℕ) (k : RunToken) (u : Taking) → EventsFit (events_of_token k) → one_token c.sheet y (room_left c.area v) k ≡ u →
        Good i z → root_only z.control ≡ true → Good i y → length v ≤ c.area → f < c.before + next → f < c.before + past_first c f at → KeptBy (record_token c at room m z f v next u)
    kept_record z y f v next k (taken y' w) E t g r j l o p = by (root_only y'.control) (leb (length (v ++ w)) room)
      where
        good : Good i y'
        good = good_taken i y (room_left c.area v) k y' w E j t

        long : length (v ++ w) ≤ c.area
        long =
            let q = takes_one c.sheet y (room_left c.area v) k y' w t in
            omega (arith, length-append v w, q.fits, ap length q.writes, l)

        by : (b d : Bool) → KeptBy (cond b (cond d (on next (between y') (v ++ w) [] (length (v ++ w))) (stop 17 at m [] (length (v ++ w)))) (on next (inside z y' f (v ++ w)) [] [] (length (v ++ w))))
        by true true = good
        by true false = (h, omega arith)
        by false d = (g, r, good, long, o)
    kept_record z y f v next k (refuses n) E t g r j l o p = kept_breaks z f n (refuses_small c.sheet y (room_left c.area v) k n t) g r p
    kept_record z y f v next k no_room E t g r j l o p = (h, omega arith)

    kept_other : (z : Configuration) (next : ℕ) (k : RunToken) (u : Taking) → EventsFit (events_of_token k) → one_token c.sheet z room k ≡ u → Good i z → KeptBy (other_token at m next u)
    kept_other z next k (taken y w) E t g = good_taken i z room k y w E g t
    kept_other z next k (refuses n) E t g = (h, refuses_small c.sheet z room k n t)
    kept_other z next k no_room E t g = (h, omega arith)

  past_own_first : (at : ℕ) → in_stream c at < c.before + past_first c (in_stream c at) at
  past_own_first at = let e = past_own c at in omega (arith, e)

  past_later : (f at : ℕ) → f < c.before + at → f < c.before + past_first c f at
  past_later f at g = let e = past_begun c f at g in omega (arith, e, g)

  kept_token : (at room next : ℕ) (k : RunToken) (m : Mode) → EventsFit (events_of_token k) → at < next → HoldsAt (c.before + at) m → KeptBy (token_step c at room next k m)
  kept_token at room next k (between z) E l g = by (begins_record c.tags z.control k) refl
    where
      by : (o : Bool) → begins_record c.tags z.control k ≡ o → KeptBy
          (cond o (record_token c at room (between z) z (in_stream c at) [] next (one_token c.sheet z (room_left c.area []) k)) (other_token at (between z) next (one_token c.sheet z room k)))
      by true e =
          kept_record at room (between z) g z z (in_stream c at) [] next k (one_token c.sheet z (room_left c.area []) k) E refl g
          (both_true (root_only z.control) (starts_with c.tags.record_tag k) e).0 g (omega arith) (omega (arith, l)) (past_own_first at)
      by false e = kept_other at room (between z) g z next k (one_token c.sheet z room k) E refl g
  kept_token at room next k (inside z y f v) E l (a, r, b, w, g) =
      kept_record at room (inside z y f v) (a, r, b, w, g) z y f v next k (one_token c.sheet y (room_left c.area v) k) E refl a r b w (omega (arith, l, g)) (past_later f at g)
  kept_token at room next k (skipping z f n) E l g = (g, omega arith)

  kept_number : (at room n : ℕ) (m : Mode) → n < 255 → HoldsAt (c.before + at) m → KeptBy (number_step c at n m)
  kept_number at room n (between z) b g = (g, b)
  kept_number at room n (inside z y f v) b (a, r, j, w, g) = kept_breaks at room (inside z y f v) (a, r, j, w, g) z f n b a r (past_later f at g)
  kept_number at room n (skipping z f k) b g = (g, omega arith)

  abbrev w₁ : List ℕ
  w₁ = record_start c.sheet c.tags

  abbrev w₂ : List ℕ
  w₂ = root_end c.sheet c.tags

  skip_past : (at : ℕ) (r : Resumed) → at ≤ length c.part → ResumedIs w₁ w₂ c.part at r → at ≤ skip_to c r
  skip_past at (Here to) l (i, j, o, h) = i
  skip_past at (Waits to) l h = l
  skip_past at Nowhere l h = l

  kept_skip : (at : ℕ) (z : Configuration) (f n : ℕ) (r : Resumed) → at ≤ length c.part → ResumedIs w₁ w₂ c.part at r → HoldsAt (c.before + at) (skipping z f n) →
      KeptBy (skip_step c z f n r)
  kept_skip at z f n (Here to) l k (a, r, d, g) = a
  kept_skip at z f n (Waits to) l (j, o, p, q) (a, r, d, g) = by c.more
    where
      by : (b : Bool) → KeptBy (cond b (stay 16 to (skipping z f n)) (stop 27 (length c.part) (between z) (lost f (last_byte c) n ∷ []) 0))
      by true = ((a, r, d, omega (arith, j, g)), omega arith)
      by false = (a, omega arith)
  kept_skip at z f n Nowhere l k (a, r, d, g) = by c.more
    where
      by : (b : Bool) → KeptBy (cond b (stay 16 (length c.part) (skipping z f n)) (stop 27 (length c.part) (between z) (lost f (last_byte c) n ∷ []) 0))
      by true = ((a, r, d, omega (arith, l, g)), omega arith)
      by false = (a, omega arith)

  pub kept_step : (at room spare : ℕ) (m : Mode) (t : Step) → StepIs c at room spare m t → at ≤ length c.part → HoldsAt (c.before + at) m → KeptBy t
  kept_step at room spare m t (at_token e next q r) l h =
      let j = read_moves c.more c.part at e next r l in
      kept_reported at room m h spare at (omega arith) (token_step c at room next (token_of c.sheet c.part e) m)
      (kept_token at room next (token_of c.sheet c.part e) m (event_fits c.sheet c.part e (event_in c.more c.part at e next r)) j.0 h)
  kept_step at room spare m t (at_none y n q r g) l h =
      kept_reported at room m h spare at (omega arith) (number_step c at n m) (kept_number at room n m (number_small c.more (length (drop at c.part)) (control_of m) y n g) h)
  kept_step at room spare m t (at_bytes z f n r e g) l h =
      let k = subst (HoldsAt (c.before + at)) e h in
      subst (λ (j : Mode). KeptBy (reported spare (skip_to c r) j (skip_step c z f n r))) (sym e)
      (kept_reported at room (skipping z f n) k spare (skip_to c r) (skip_past at r l g) (skip_step c z f n r) (kept_skip at z f n r l g k))

  abbrev pub SmallClosing : Option ℕ → Type 0
  SmallClosing none = Unit {0}
  SmallClosing (some n) = n < 255

  closing_small : (b : Bool) (n : ℕ) → n < 255 → SmallClosing (closing_of b n)
  closing_small true n h = tt
  closing_small false n h = h

  pub run_kept : {at room spare : ℕ} {m : Mode} {r : Rescued} → Rescues c at room spare m r → at ≤ length c.part → HoldsAt (c.before + at) m →
      HoldsAt r.held.passed r.held.mode × SmallClosing r.held.closing
  run_kept (goes {at} {room} {spare} {m} next m' w ds k st d) l h =
      run_kept d (fine_step c at room spare m (on next m' w ds k) st l (holds_began (c.before + at) m h)).0 (kept_step at room spare m (on next m' w ds k) st l h)
  run_kept (halts {at} {room} {spare} {m} n to m' ds k st) l h =
      let g = kept_step at room spare m (stop n to m' ds k) st l h in
      (g.0, closing_small (leaves_open n) n g.1)
