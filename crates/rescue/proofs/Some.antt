-- A call has an answer: at each place there is a step, and a step that goes on leaves fewer bytes, or leaves the record, or the bytes passed over, behind. It stays within the part.
-- Assumes nothing.
use mathlib.Core.Path.{◌≡◌, refl, sym, ap, subst}
use mathlib.Core.Bool.{Bool, true, false, cond}
use mathlib.Core.List.{List, [], ◌∷◌, ◌++◌}
use mathlib.Core.Option.{Option, none, some}
use Prim.Native.Nat.{ℕ, zero, suc, ◌+◌, ◌*◌, ◌-◌, ◌≤◌, ◌<◌}
use native.Mathlib.Omega.{arith}
use lib.Dec.{leb, ltb}
use lib.ListN.{length, drop}
use borrow.Author.Tests.{ltb-true, lt-ltb}
use Rattle.tokens.specs.declared.Answer.{Answer}
use Rattle.tokens.specs.declared.Answer.TheVariants.{Token, Waiting, Begun, Bad, Long}
use Rattle.tokens.specs.Stream.{ReadAs}
use Rattle.sheet.specs.Sheet.{Sheet}
use Rattle.runs.specs.Machine.{Control, Configuration}
use Rattle.runs.specs.Spells.{Token as RunToken}
use Rattle.calls.specs.Names.{token_of}
use Rattle.calls.specs.Limits.{Taking, taken, refuses, no_room, one_token}
use Rattle.calls.specs.Held.{leaves_open}
use Rattle.calls.specs.Call.{room_left, number_at}
use Rattle.calls.proofs.Read.{some_read, never_waits, read_moves}
use Rattle.salvage.specs.Shape.{RecordTags}
use Rattle.salvage.specs.Resumption.{record_start, root_end}
use Rattle.salvage.specs.Salvage.{root_only, begins_record, lost, damaged}
use Rattle.salvaging.specs.declared.Resumed.{Resumed}
use Rattle.salvaging.specs.declared.Resumed.TheVariants.{Here, Waits, Nowhere}
use Rattle.salvaging.specs.Resumed.{ResumedIs}
use Rattle.rescue.specs.Held.{Mode, between, inside, skipping, reads_tokens, control_of, Rescued}
use Rattle.rescue.specs.Step.{Setting, Step, on, stop, stay, in_stream, past_first, last_byte, drops_at, closes_at, breaks_at, record_token, other_token, token_step, number_step, skip_step, skip_to, reported, StepIs, at_token, at_none, at_bytes}
use Rattle.rescue.specs.Call.{halted, after_step, spare_left, Rescues, goes, halts, repeats, setting, RescuedBy}
use Rattle.rescue.specs.Parts.{Began}
use Rattle.rescue.specs.Promises.{SomeRescue, RescueWithin}
use Rattle.rescue.proofs.Resumed.{some_resumed}

abbrev rank : Mode → ℕ
rank (between z) = 0
rank (inside z y f v) = 2
rank (skipping z f n) = 1

module _ (c : Setting) where
  abbrev left : ℕ → Mode → ℕ
  left at m = 3 * (length c.part - at) + rank m

  -- a step stays within the part, and leaves less
  abbrev pub Fine : ℕ → Mode → Step → Type 0
  Fine at m (on next m' w ds k) = (next ≤ length c.part) × Began (c.before + next) m' × (left next m' < left at m)
  Fine at m (stop n to m' ds k) = (to ≤ length c.part) × Began (c.before + to) m'

  module _ (at room : ℕ) (m : Mode) (l : at ≤ length c.part) (g : Began (c.before + at) m) where
    fine_reported : (spare p : ℕ) → p ≤ length c.part → Began (c.before + p) m → (t : Step) → Fine at m t → Fine at m (reported spare p m t)
    fine_reported spare p i j (on next m' w ds k) h = by (leb (length ds) spare)
      where
        by : (o : Bool) → Fine at m (cond o (on next m' w ds k) (stay 17 p m))
        by true = h
        by false = (i, j)
    fine_reported spare p i j (stop n to m' ds k) h = by (leb (length ds) spare)
      where
        by : (o : Bool) → Fine at m (cond o (stop n to m' ds k) (stay 17 p m))
        by true = h
        by false = (i, j)

    fine_breaks : (z : Configuration) (f n : ℕ) → past_first c f at ≤ length c.part → 3 * (length c.part - past_first c f at) + 1 < left at m → Fine at m (breaks_at c at m z f n)
    fine_breaks z f n i j = by (leaves_open n) (damaged n)
      where
        by : (o d : Bool) → Fine at m (cond o (stay n at m) (cond d (drops_at c at m z f n) (closes_at c at m z f n)))
        by true d = (l, g)
        by false true = (i, tt, j)
        by false false = (l, tt)

    fine_record : (z : Configuration) (f : ℕ) (v : List ℕ) (next : ℕ) (u : Taking) → at < next → next ≤ length c.part → f < c.before + next →
        past_first c f at ≤ length c.part → 3 * (length c.part - past_first c f at) + 1 < left at m → Fine at m (record_token c at room m z f v next u)
    fine_record z f v next (taken y w) i j h p q = by (root_only y.control) (leb (length (v ++ w)) room)
      where
        by : (o d : Bool) → Fine at m (cond o (cond d (on next (between y) (v ++ w) [] (length (v ++ w))) (stop 17 at m [] (length (v ++ w)))) (on next (inside z y f (v ++ w)) [] [] (length (v ++ w))))
        by true true = (j, tt, omega (arith, i, j))
        by true false = (l, g)
        by false d = (j, h, omega (arith, i, j))
    fine_record z f v next (refuses n) i j h p q = fine_breaks z f n p q
    fine_record z f v next no_room i j h p q = (l, g)

    fine_other : (next : ℕ) (u : Taking) → at < next → next ≤ length c.part → Fine at m (other_token at m next u)
    fine_other next (taken y w) i j = (j, tt, omega (arith, i, j))
    fine_other next (refuses n) i j = (l, g)
    fine_other next no_room i j = (l, g)

  -- inside a record that has begun
  pub past_begun : (f at : ℕ) → f < c.before + at → past_first c f at ≡ at
  past_begun f at g = ap (λ (o : Bool). cond o at (suc at)) (lt-ltb f (c.before + at) g)

  pub past_own : (at : ℕ) → past_first c (in_stream c at) at ≡ suc at
  past_own at = by (ltb (in_stream c at) (in_stream c at)) refl
    where
      by : (o : Bool) → ltb (in_stream c at) (in_stream c at) ≡ o → cond o at (suc at) ≡ suc at
      by true e = absurd (let h = ltb-true (in_stream c at) (in_stream c at) e in omega (arith, h))
      by false e = refl

  fine_token : (at room next : ℕ) (k : RunToken) (m : Mode) → at ≤ length c.part → Began (c.before + at) m → at < next → next ≤ length c.part →
      Fine at m (token_step c at room next k m)
  fine_token at room next k (between z) l g i j = by (begins_record c.tags z.control k)
    where
      by : (o : Bool) → Fine at (between z)
          (cond o (record_token c at room (between z) z (in_stream c at) [] next (one_token c.sheet z (room_left c.area []) k)) (other_token at (between z) next (one_token c.sheet z room k)))
      by true =
          fine_record at room (between z) l g z (in_stream c at) [] next (one_token c.sheet z (room_left c.area []) k) i j (omega (arith, i))
          (omega (arith, past_own at, i, j)) (omega (arith, past_own at, i, j))
      by false = fine_other at room (between z) l g next (one_token c.sheet z room k) i j
  fine_token at room next k (inside z y f v) l g i j =
      let p = past_begun f at g in
      fine_record at room (inside z y f v) l g z f v next (one_token c.sheet y (room_left c.area v) k) i j (omega (arith, g, i)) (omega (arith, p, l)) (omega (arith, p))
  fine_token at room next k (skipping z f n) l g i j = (l, g)

  fine_number : (at room n : ℕ) (m : Mode) → at ≤ length c.part → Began (c.before + at) m → Fine at m (number_step c at n m)
  fine_number at room n (between z) l g = (l, g)
  fine_number at room n (inside z y f v) l g =
      let p = past_begun f at g in
      fine_breaks at room (inside z y f v) l g z f n (omega (arith, p, l)) (omega (arith, p))
  fine_number at room n (skipping z f k) l g = (l, g)

  pub skip_within : (at : ℕ) (r : Resumed) → ResumedIs (record_start c.sheet c.tags) (root_end c.sheet c.tags) c.part at r → skip_to c r ≤ length c.part
  skip_within at (Here to) (l, i, o, h) = omega (arith, i)
  skip_within at (Waits to) h = omega arith
  skip_within at Nowhere h = omega arith

  fine_skip : (at : ℕ) (z : Configuration) (f n : ℕ) (r : Resumed) → at ≤ length c.part →
      ResumedIs (record_start c.sheet c.tags) (root_end c.sheet c.tags) c.part at r → Fine at (skipping z f n) (skip_step c z f n r)
  fine_skip at z f n (Here to) l (i, j, o, h) = (omega (arith, j), tt, omega (arith, i, j))
  fine_skip at z f n (Waits to) l (i, j, o, h) = by c.more
    where
      by : (d : Bool) → Fine at (skipping z f n) (cond d (stay 16 to (skipping z f n)) (stop 27 (length c.part) (between z) (lost f (last_byte c) n ∷ []) 0))
      by true = (omega (arith, j), tt)
      by false = (omega arith, tt)
  fine_skip at z f n Nowhere l h = by c.more
    where
      by : (d : Bool) → Fine at (skipping z f n) (cond d (stay 16 (length c.part) (skipping z f n)) (stop 27 (length c.part) (between z) (lost f (last_byte c) n ∷ []) 0))
      by true = (omega arith, tt)
      by false = (omega arith, tt)

  pub fine_step : (at room spare : ℕ) (m : Mode) (t : Step) → StepIs c at room spare m t → at ≤ length c.part → Began (c.before + at) m → Fine at m t
  fine_step at room spare m t (at_token e next q r) l g =
      let i = read_moves c.more c.part at e next r l in
      fine_reported at room m l g spare at l g (token_step c at room next (token_of c.sheet c.part e) m) (fine_token at room next (token_of c.sheet c.part e) m l g i.0 i.1)
  fine_step at room spare m t (at_none y n q r h) l g = fine_reported at room m l g spare at l g (number_step c at n m) (fine_number at room n m l g)
  fine_step at room spare m t (at_bytes z f n r e h) l g =
      subst (λ (k : Mode). Fine at k (reported spare (skip_to c r) k (skip_step c z f n r))) (sym e)
      (fine_reported at room (skipping z f n) l tt spare (skip_to c r) (skip_within at r h) tt (skip_step c z f n r) (fine_skip at z f n r l h))

  begun_number : (left : ℕ) (o : Control) → (n : ℕ) × (number_at c.more left o Begun ≡ some n)
  begun_number left o = by c.more left
    where
      by : (b : Bool) (l : ℕ) → (n : ℕ) × (number_at b l o Begun ≡ some n)
      by true l = (16, refl)
      by false zero = (_, refl)
      by false (suc l) = (27, refl)

  reading_step : (at room spare : ℕ) (m : Mode) → reads_tokens m ≡ true → (y : Answer) → ReadAs c.more c.part at y → (t : Step) × StepIs c at room spare m t
  reading_step at room spare m q (Token e next) r = (_, at_token e next.at q r)
  reading_step at room spare m q (Waiting e next) r = absurd (never_waits c.more c.part at e next r)
  reading_step at room spare m q Begun r = let (n, h) = begun_number (length (drop at c.part)) (control_of m) in (_, at_none Begun n q r h)
  reading_step at room spare m q Bad r = (_, at_none Bad 20 q r refl)
  reading_step at room spare m q Long r = (_, at_none Long 21 q r refl)

  some_step : (at room spare : ℕ) (m : Mode) → (t : Step) × StepIs c at room spare m t
  some_step at room spare (between z) = let y = some_read c.more c.part at in reading_step at room spare (between z) refl y.0 y.1
  some_step at room spare (inside z y f v) = let x = some_read c.more c.part at in reading_step at room spare (inside z y f v) refl x.0 x.1
  some_step at room spare (skipping z f n) =
      let (r, h) = some_resumed (record_start c.sheet c.tags) (root_end c.sheet c.tags) c.part at in
      (_, at_bytes z f n r refl h)

  abbrev Goes : (at room spare : ℕ) → Mode → Type 0
  Goes at room spare m = (r : Rescued) × Rescues c at room spare m r

  -- by the first step
  from_step : (at room spare : ℕ) (m : Mode) → at ≤ length c.part → Began (c.before + at) m → (t : Step) → StepIs c at room spare m t →
      ((next room' spare' : ℕ) (m' : Mode) → left next m' < left at m → next ≤ length c.part → Began (c.before + next) m' → Goes next room' spare' m') → Goes at room spare m
  from_step at room spare m l g (on next m' w ds k) st rec =
      let f = fine_step at room spare m (on next m' w ds k) st l g in
      let (r, d) = rec next (room_left room w) (spare_left spare ds) m' f.2 f.0 f.1 in
      (after_step w ds k r, goes next m' w ds k st d)
  from_step at room spare m l g (stop n to m' ds k) st rec = (halted c n to m' ds k, halts n to m' ds k st)

  pub runs_on : (fuel at room spare : ℕ) (m : Mode) → left at m ≤ fuel → at ≤ length c.part → Began (c.before + at) m → Goes at room spare m
  runs_on zero at room spare m f l g =
      let (t, st) = some_step at room spare m in
      from_step at room spare m l g t st (λ next room' spare' m' h i j. absurd (omega (arith, f, h)))
  runs_on (suc fuel) at room spare m f l g =
      let (t, st) = some_step at room spare m in
      from_step at room spare m l g t st (λ next room' spare' m' h i j. runs_on fuel next room' spare' m' (omega (arith, f, h)) i j)

  -- a call stays within the part, and a record that it is left in began with a byte that is taken
  pub run_within : {at room spare : ℕ} {m : Mode} {r : Rescued} → Rescues c at room spare m r → at ≤ length c.part → Began (c.before + at) m →
      (r.taken ≤ length c.part) × Began r.held.passed r.held.mode × (r.held.passed ≡ c.before + r.taken)
  run_within (goes {at} {room} {spare} {m} next m' w ds k st d) l g = let f = fine_step at room spare m (on next m' w ds k) st l g in run_within d f.0 f.1
  run_within (halts {at} {room} {spare} {m} n to m' ds k st) l g = let f = fine_step at room spare m (stop n to m' ds k) st l g in (f.0, f.1, refl)

pub some_rescue : (a : Sheet) (x : RecordTags) → SomeRescue a x
some_rescue a x part more area room spare h g = by h.closing
  where
    by : (o : Option ℕ) → (r : Rescued) × RescuedBy a x part more area room spare h o r
    by none =
        runs_on (setting a x part more h.passed area) (3 * (length part - 0) + rank h.mode) 0 room spare h.mode (omega arith) (omega arith)
        (subst (λ (p : ℕ). Began p h.mode) (omega arith) g)
    by (some n) = (repeats n h, refl)

pub rescue_within : (a : Sheet) (x : RecordTags) → RescueWithin a x
rescue_within a x part more area room spare h r g d = by h.closing d
  where
    by : (o : Option ℕ) → RescuedBy a x part more area room spare h o r → (r.taken ≤ length part) × Began r.held.passed r.held.mode × (r.held.passed ≡ h.passed + r.taken)
    by none d = run_within (setting a x part more h.passed area) d (omega arith) (subst (λ (p : ℕ). Began p h.mode) (omega arith) g)
    by (some n) d =
        subst (λ (q : Rescued). (q.taken ≤ length part) × Began q.held.passed q.held.mode × (q.held.passed ≡ h.passed + q.taken)) (sym d) (omega arith, g, omega arith)
