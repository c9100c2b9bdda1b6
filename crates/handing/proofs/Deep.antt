-- How many are open, and which numbers close, behind each step of a call.
-- Assumes nothing.
use mathlib.Core.Path.{◌≡◌, refl, sym, ◌∙◌, subst}
use mathlib.Core.Logic.{◌⊎◌, inl, inr}
use mathlib.Core.Bool.{Bool, true, false, cond, true≢false}
use mathlib.Core.List.{List, [], ◌∷◌, ◌++◌}
use mathlib.Core.Option.{Option, none, some}
use Prim.Native.Nat.{ℕ, zero, suc, ◌+◌, ◌≤◌}
use native.Mathlib.Omega.{arith}
use lib.Dec.{leb}
use lib.ListN.{length, drop}
use Rattle.tokens.specs.declared.Answer.{Answer}
use Rattle.tokens.specs.declared.Answer.TheVariants.{Token, Waiting, Begun, Bad, Long}
use Rattle.sheet.specs.Sheet.{Sheet, IsSheet}
use Rattle.runs.specs.Closing.{Closing, closed_by_end, closed_by_refusal, closed_by_count}
use Rattle.runs.specs.Visits.{most_visits}
use Rattle.runs.specs.Machine.{Control, before, after, Configuration, took, refused}
use Rattle.runs.specs.Machine as machine
use Rattle.runs.specs.Spells.{Token as RunToken, step_token}
use Rattle.runs.proofs.Execute.{both_true}
use Rattle.calls.specs.Names.{token_of}
use Rattle.calls.specs.Limits.{output_of, Taking, taken, refuses, no_room, limited, within, one_token}
use Rattle.calls.specs.Held.{leaves_open, closing_of}
use Rattle.calls.specs.Call.{room_left, number_at}
use Rattle.calls.proofs.Frame.{count_of, token_number}
use Rattle.calls.proofs.Steps.{RunAnswer, takes_one}
use Rattle.salvage.specs.Shape.{OfShape}
use Rattle.salvage.specs.Salvage.{root_only, starts_with, begins_record, lost, damaged}
use Rattle.salvage.proofs.Depths.{open_in, Leaves, TokenLeaves, token_leaves}
use Rattle.salvage.proofs.Some.{two_open, one_open, leaves_one, start_leaves}
use Rattle.salvaging.specs.declared.Resumed.{Resumed}
use Rattle.salvaging.specs.declared.Resumed.TheVariants.{Here, Waits, Nowhere}
use Rattle.rescue.specs.Held.{Mode, between, inside, skipping, control_of, Rescued}
use Rattle.rescue.specs.Step.{Setting, Step, on, stop, stay, in_stream, last_byte, drops_at, closes_at, breaks_at, record_token, other_token, token_step, number_step, skip_step, skip_to, reported, StepIs, at_token, at_none, at_bytes}
use Rattle.rescue.specs.Call.{Rescues, goes, halts}
use Rattle.rescue.proofs.Some.{fine_step}
use Rattle.handing.proofs.Modes.{HoldsAt, holds_began, kept_step}
use Rattle.handing.proofs.Depths.{other_leaves}

-- a number of a call leaves the state open, or is one that closes
abbrev pub Known : ℕ → Type 0
Known k = (leaves_open k ≡ true) ⊎ Closing k

refuses_closing : (a : Sheet) (z : Configuration) (room : ℕ) (k : RunToken) (n : ℕ) → one_token a z room k ≡ refuses n → Known n
refuses_closing a z room k n e = by (step_token a z k) refl e
  where
    by_tests : (y : Configuration) (c f : Bool) → limited y c f ≡ refuses n → Known n
    by_tests y false f e = let h : 30 ≡ n = cc in inr (subst Closing h closed_by_count)
    by_tests y true false e = absurd (let x : ◌≡◌ {A = ℕ} 0 1 = cc in omega arith)
    by_tests y true true e = absurd (let x : ◌≡◌ {A = ℕ} 0 1 = cc in omega arith)

    by : (u : RunAnswer) → step_token a z k ≡ u → within room u ≡ refuses n → Known n
    by (took y) t e = by_tests y (leb (count_of y) most_visits) (leb (length (output_of y)) room) e
    by (refused m) t e =
        let h : m ≡ n = cc in
        let j = token_number a z k m t in
        inr (closed_by_refusal {n = n} (omega (arith, h, j.0)) (omega (arith, h, j.1)))

number_known : (more : Bool) (left : ℕ) (c : Control) (y : Answer) (n : ℕ) → number_at more left c y ≡ some n → Known n
number_known more left c (Token e next) n q = absurd (let z : ◌≡◌ {A = ℕ} 0 1 = cc in omega arith)
number_known more left c (Waiting e next) n q = absurd (let z : ◌≡◌ {A = ℕ} 0 1 = cc in omega arith)
number_known true left c Begun n q = let h : 16 ≡ n = cc in subst Known h (inl refl)
number_known false zero before Begun n q = let h : 27 ≡ n = cc in inr (closed_by_refusal {n = n} (omega (arith, h)) (omega (arith, h)))
number_known false zero (machine.inside o os) Begun n q = let h : 27 ≡ n = cc in inr (closed_by_refusal {n = n} (omega (arith, h)) (omega (arith, h)))
number_known false zero after Begun n q = let h : 0 ≡ n = cc in inr (subst Closing h closed_by_end)
number_known false (suc left) c Begun n q = let h : 27 ≡ n = cc in inr (closed_by_refusal {n = n} (omega (arith, h)) (omega (arith, h)))
number_known more left c Bad n q = let h : 20 ≡ n = cc in inr (closed_by_refusal {n = n} (omega (arith, h)) (omega (arith, h)))
number_known more left c Long n q = let h : 21 ≡ n = cc in inr (closed_by_refusal {n = n} (omega (arith, h)) (omega (arith, h)))

root_one : (c : Control) → root_only c ≡ true → open_in c ≤ 1
root_one before e = absurd (true≢false (sym e))
root_one (machine.inside o []) e = omega arith
root_one (machine.inside o (p ∷ os)) e = absurd (true≢false (sym e))
root_one after e = absurd (true≢false (sym e))

-- between records the root is open at most, in a record two or more are
abbrev pub DeepAt : Mode → Type 0
DeepAt (between z) = open_in z.control ≤ 1
DeepAt (inside z y f v) = 2 ≤ open_in y.control
DeepAt (skipping z f n) = Unit {0}

abbrev DeepBy : Step → Type 0
DeepBy (on next m' w ds k) = DeepAt m'
DeepBy (stop n to m' ds k) = DeepAt m' × Known n

abbrev pub KnownClosing : Option ℕ → Type 0
KnownClosing none = Unit {0}
KnownClosing (some n) = Closing n

known_closing : (b : Bool) (n : ℕ) → leaves_open n ≡ b → Known n → KnownClosing (closing_of b n)
known_closing true n e k = tt
known_closing false n e (inl h) = absurd (true≢false (sym h ∙ e))
known_closing false n e (inr k) = k

-- a token of a record leaves one open
leaves_open_lem : (a : Sheet) (y : Configuration) (room : ℕ) (k : RunToken) (y' : Configuration) (w : List ℕ) → one_token a y room k ≡ taken y' w → 1 ≤ open_in y.control →
    Leaves k (open_in y.control) (open_in y'.control)
leaves_open_lem a y room k y' w t h =
    let o = takes_one a y room k y' w t in
    subst (λ (c : Configuration). Leaves k (open_in y.control) (open_in c.control)) (sym o.silenced) (subst (TokenLeaves k (open_in y.control)) o.stepped (token_leaves a y h k))

module _ {s : List ℕ} (c : Setting) (i : IsSheet s c.sheet) (n : ℕ) (shape : OfShape c.sheet n c.tags) where
  module _ (at room : ℕ) (m : Mode) (h : DeepAt m) where
    deep_reported : (spare p : ℕ) (t : Step) → DeepBy t → DeepBy (reported spare p m t)
    deep_reported spare p (on next m' w ds k) g = by (leb (length ds) spare)
      where
        by : (o : Bool) → DeepBy (cond o (on next m' w ds k) (stay 17 p m))
        by true = g
        by false = (h, inl refl)
    deep_reported spare p (stop j to m' ds k) g = by (leb (length ds) spare)
      where
        by : (o : Bool) → DeepBy (cond o (stop j to m' ds k) (stay 17 p m))
        by true = g
        by false = (h, inl refl)

    deep_breaks : (z : Configuration) (f j : ℕ) → Known j → root_only z.control ≡ true → DeepBy (breaks_at c at m z f j)
    deep_breaks z f j k r = by (leaves_open j) (damaged j)
      where
        by : (o d : Bool) → DeepBy (cond o (stay j at m) (cond d (drops_at c at m z f j) (closes_at c at m z f j)))
        by true d = (h, k)
        by false true = tt
        by false false = (root_one z.control r, k)

    deep_record : (z y : Configuration) (f : ℕ) (v : List ℕ) (next : ℕ) (k : RunToken) (u : Taking) → one_token c.sheet y (room_left c.area v) k ≡ u → root_only z.control ≡ true →
        ((y' : Configuration) (w : List ℕ) → one_token c.sheet y (room_left c.area v) k ≡ taken y' w → 1 ≤ open_in y'.control) → DeepBy (record_token c at room m z f v next u)
    deep_record z y f v next k (taken y' w) t r stays = by (root_only y'.control) refl (leb (length (v ++ w)) room)
      where
        by : (b : Bool) → root_only y'.control ≡ b → (d : Bool) →
            DeepBy (cond b (cond d (on next (between y') (v ++ w) [] (length (v ++ w))) (stop 17 at m [] (length (v ++ w)))) (on next (inside z y' f (v ++ w)) [] [] (length (v ++ w))))
        by true e true = root_one y'.control e
        by true e false = (h, inl refl)
        by false e d = two_open y'.control (stays y' w t) e
    deep_record z y f v next k (refuses j) t r stays = deep_breaks z f j (refuses_closing c.sheet y (room_left c.area v) k j t) r
    deep_record z y f v next k no_room t r stays = (h, inl refl)

  deep_token : (p at room next : ℕ) (k : RunToken) (m : Mode) → HoldsAt c i p m → DeepAt m → DeepBy (token_step c at room next k m)
  deep_token p at room next k (between z) g h = by (begins_record c.tags z.control k) refl
    where
      other : begins_record c.tags z.control k ≡ false → (u : Taking) → one_token c.sheet z room k ≡ u → DeepBy (other_token at (between z) next u)
      other e (taken y w) t = other_leaves c.sheet n c.tags shape z room y w g.fits h k e t
      other e (refuses j) t = (h, refuses_closing c.sheet z room k j t)
      other e no_room t = (h, inl refl)

      by : (o : Bool) → begins_record c.tags z.control k ≡ o → DeepBy
          (cond o (record_token c at room (between z) z (in_stream c at) [] next (one_token c.sheet z (room_left c.area []) k)) (other_token at (between z) next (one_token c.sheet z room k)))
      by true e =
          let b = both_true (root_only z.control) (starts_with c.tags.record_tag k) e in
          deep_record at room (between z) h z z (in_stream c at) [] next k (one_token c.sheet z (room_left c.area []) k) refl b.0
          (λ y' w t. start_leaves c.tags.record_tag k (open_in z.control) (open_in y'.control) b.1 (one_open z.control b.0)
          (leaves_open_lem c.sheet z (room_left c.area []) k y' w t (one_open z.control b.0)))
      by false e = other e (one_token c.sheet z room k) refl
  deep_token p at room next k (inside z y f v) g h =
      deep_record at room (inside z y f v) h z y f v next k (one_token c.sheet y (room_left c.area v) k) refl g.1
      (λ y' w t. leaves_one k (open_in y.control) (open_in y'.control) h (leaves_open_lem c.sheet y (room_left c.area v) k y' w t (omega (arith, h))))
  deep_token p at room next k (skipping z f j) g h = (h, inl refl)

  deep_number : (p at room j : ℕ) (m : Mode) → Known j → HoldsAt c i p m → DeepAt m → DeepBy (number_step c at j m)
  deep_number p at room j (between z) k g h = (h, k)
  deep_number p at room j (inside z y f v) k g h = deep_breaks at room (inside z y f v) h z f j k g.1
  deep_number p at room j (skipping z f e) k g h = (h, inl refl)

  deep_skip : (z : Configuration) (f j : ℕ) (r : Resumed) → root_only z.control ≡ true → DeepBy (skip_step c z f j r)
  deep_skip z f j r e = by r
    where
      out : (to : ℕ) (b : Bool) → DeepBy (cond b (stay 16 to (skipping z f j)) (stop 27 (length c.part) (between z) (lost f (last_byte c) j ∷ []) 0))
      out to true = (tt, inl refl)
      out to false = (root_one z.control e, inr (closed_by_refusal {n = 27} (omega arith) (omega arith)))

      by : (r : Resumed) → DeepBy (skip_step c z f j r)
      by (Here to) = root_one z.control e
      by (Waits to) = out to c.more
      by Nowhere = out (length c.part) c.more

  deep_step : (p at room spare : ℕ) (m : Mode) (t : Step) → StepIs c at room spare m t → HoldsAt c i p m → DeepAt m → DeepBy t
  deep_step p at room spare m t (at_token e next q r) g h =
      deep_reported at room m h spare at (token_step c at room next (token_of c.sheet c.part e) m) (deep_token p at room next (token_of c.sheet c.part e) m g h)
  deep_step p at room spare m t (at_none y j q r k) g h =
      deep_reported at room m h spare at (number_step c at j m) (deep_number p at room j m (number_known c.more (length (drop at c.part)) (control_of m) y j k) g h)
  deep_step p at room spare m t (at_bytes z f j r e k) g h =
      subst (λ (o : Mode). DeepBy (reported spare (skip_to c r) o (skip_step c z f j r))) (sym e)
      (deep_reported at room (skipping z f j) tt spare (skip_to c r) (skip_step c z f j r) (deep_skip z f j r (subst (HoldsAt c i p) e g).1))

  pub run_deep : {at room spare : ℕ} {m : Mode} {r : Rescued} → Rescues c at room spare m r → at ≤ length c.part → HoldsAt c i (c.before + at) m → DeepAt m →
      DeepAt r.held.mode × KnownClosing r.held.closing
  run_deep (goes {at} {room} {spare} {m} next m' w ds k st d) l g h =
      run_deep d (fine_step c at room spare m (on next m' w ds k) st l (holds_began c i (c.before + at) m g)).0 (kept_step c i at room spare m (on next m' w ds k) st l g)
      (deep_step (c.before + at) at room spare m (on next m' w ds k) st g h)
  run_deep (halts {at} {room} {spare} {m} j to m' ds k st) l g h =
      let q = deep_step (c.before + at) at room spare m (stop j to m' ds k) st g h in
      (q.0, known_closing (leaves_open j) j refl q.1)

  pub run_known : {at room spare : ℕ} {m : Mode} {r : Rescued} → Rescues c at room spare m r → at ≤ length c.part → HoldsAt c i (c.before + at) m → DeepAt m → Known r.number
  run_known (goes {at} {room} {spare} {m} next m' w ds k st d) l g h =
      run_known d (fine_step c at room spare m (on next m' w ds k) st l (holds_began c i (c.before + at) m g)).0 (kept_step c i at room spare m (on next m' w ds k) st l g)
      (deep_step (c.before + at) at room spare m (on next m' w ds k) st g h)
  run_known (halts {at} {room} {spare} {m} j to m' ds k st) l g h = (deep_step (c.before + at) at room spare m (stop j to m' ds k) st g h).1
