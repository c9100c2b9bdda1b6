-- What returns as bytes, one row behind another; and the tests of 29, one after another.
-- Assumes nothing.
use mathlib.Core.Path.{◌≡◌, refl, sym, ap, ap₂, subst, ◌∙◌}
use mathlib.Core.Bool.{Bool, true, false, not, ◌&&◌}
use mathlib.Core.List.{List, [], ◌∷◌, ◌++◌, append_assoc}
use Prim.Native.Nat.{ℕ, zero, suc, ◌+◌, ◌-◌, ◌*◌, ◌^◌, ◌≤◌, ◌<◌}
use native.Mathlib.Omega.{arith}
use lib.Dec.{eqb, leb, ltb}
use lib.ListN.{length, take, drop, replicate, length-append, length-take, length-drop, length-replicate}
use borrow.Author.Tests.{eqb-true, eqb-false, leb-true, leb-false, eq-eqb, le-leb, not-true, not-false}
use Rattle.lent.specs.Put.{put, PutAs}
use Rattle.lent.proofs.Laws.{put_append, put_all}
use Rattle.tells.specs.Tells.{Tells, holds, fails}
use Rattle.layout.specs.Layout.{byte_at}
use Rattle.sheet.specs.Sheet.{Sheet, IsSheet, grammar_of}
use Rattle.sheet.proofs.SheetLaws.{sheet_grammar}
use Rattle.fit.specs.Fit.{Fit}
use Rattle.fit.specs.Tests.{FitTold}
use Rattle.salvage.specs.Salvage.{damaged}
use Rattle.state.specs.Bounds.{frame_width, rooted_at, head_width, state_width}
use Rattle.state.specs.Bytes.{number_bytes, heading_from, long_at, state_from}
use Rattle.state.specs.Changes.{not_closed, tidied}
use Rattle.state.specs.Meaning.{Shaped}
use Rattle.runs.specs.Machine.{most}
use Rattle.live.specs.declared.Live.{Live}
use Rattle.live.specs.Live.{full}
use Rattle.turns.specs.declared.Stand.{Stand}
use Rattle.turns.specs.Stands.{inside_in, skipping_in}
use Rattle.state.specs.declared.State.{State}
use Rattle.state.specs.declared.Heading.{Heading}
use Rattle.converter.specs.Answered.{FitsSheet}
use Rattle.rescued.specs.Bytes.{mode_at, passed_at, first_at, refused_at, waiting_at, returns_at, salvage_width, returning_bytes, returning_in}
use Rattle.rescued.specs.Fits.{most_bytes, InsideFits, SkippingFits, ModeFits, SalvageFits}
use Rattle.holding.specs.Told.{ReturnsAs, ModeTold, SalvageTold}

-- ---- what returns, put into a row of zeros
drop_replicate : (n k : ℕ) → drop {A = ℕ} n (replicate k 0) ≡ replicate (k - n) 0
drop_replicate zero k = let e : k ≡ k - 0 = omega arith in ap (λ (i : ℕ). replicate {A = ℕ} i 0) e
drop_replicate (suc n) zero = let e : 0 ≡ 0 - suc n = omega arith in ap (λ (i : ℕ). replicate {A = ℕ} i 0) e
drop_replicate (suc n) (suc k) = let e : k - n ≡ suc k - suc n = omega arith in drop_replicate n k ∙ ap (λ (i : ℕ). replicate {A = ℕ} i 0) e

middle : List ℕ
middle = 0 ∷ 255 ∷ 1 ∷ 0 ∷ 0 ∷ 0 ∷ 0 ∷ 0 ∷ 0 ∷ 0 ∷ []

pub returning_put : (b d₁ d₂ d₃ : List ℕ) (p₁ p₂ p₃ : ℕ) → length b ≡ salvage_width →
    PutAs true (replicate state_width 0) 0 (take (returns_at + rooted_at - returns_at) (drop returns_at b)) d₁ p₁ → PutAs true d₁ p₁ (0 ∷ 255 ∷ 1 ∷ 0 ∷ 0 ∷ 0 ∷ 0 ∷ 0 ∷ 0 ∷ 0 ∷ []) d₂ p₂ →
    PutAs true d₂ p₂ (take (salvage_width - (returns_at + rooted_at)) (drop (returns_at + rooted_at) b)) d₃ p₃ → d₃ ≡ returning_bytes b
unfolding returning_bytes number_bytes middle
returning_put b d₁ d₂ d₃ p₁ p₂ p₃ l u v w =
    let A : List ℕ = take rooted_at (drop returns_at b) in
    let F : List ℕ = take frame_width (drop (returns_at + rooted_at) b) in
    let z : List ℕ = replicate state_width 0 in
    let la : length A ≡ rooted_at = omega (arith, length-take rooted_at (drop returns_at b), length-drop returns_at b) in
    let lf : length F ≡ frame_width = omega (arith, length-take frame_width (drop (returns_at + rooted_at) b), length-drop (returns_at + rooted_at) b) in
    let e₂ : d₂ ≡ put true z 0 (A ++ middle) = v.left ∙ ap₂ (λ (d : List ℕ) (i : ℕ). put true d i middle) u.left u.next ∙ put_append true z 0 A middle in
    let n₂ : p₂ ≡ 0 + length (A ++ middle) = omega (arith, v.next, u.next, length-append A middle) in
    let e₃ : d₃ ≡ put true z 0 ((A ++ middle) ++ F) = w.left ∙ ap₂ (λ (d : List ℕ) (i : ℕ). put true d i F) e₂ n₂ ∙ put_append true z 0 (A ++ middle) F in
    let n : length ((A ++ middle) ++ F) ≡ 147 = omega (arith, length-append (A ++ middle) F, length-append A middle, la, lf) in
    let lz : length z ≡ state_width = length-replicate {A = ℕ} state_width 0 in
    let k : 0 + length ((A ++ middle) ++ F) ≡ 147 = omega arith in
    let e₄ : d₃ ≡ ((A ++ middle) ++ F) ++ drop 147 z = e₃ ∙ put_all z 0 ((A ++ middle) ++ F) (omega arith) ∙ ap (λ (i : ℕ). ((A ++ middle) ++ F) ++ drop i z) k in
    e₄ ∙ ap (λ (l : List ℕ). ((A ++ middle) ++ F) ++ l) (drop_replicate 147 state_width) ∙ append_assoc (A ++ middle) F (replicate (state_width - 147) 0)
    ∙ append_assoc A middle (F ++ replicate (state_width - 147) 0)

pub returning_long : (b : List ℕ) → length b ≡ salvage_width → length (returning_bytes b) ≡ state_width
unfolding returning_bytes number_bytes
returning_long b l =
    let A : List ℕ = take rooted_at (drop returns_at b) in
    let F : List ℕ = take frame_width (drop (returns_at + rooted_at) b) in
    let Z : List ℕ = replicate (frame_width * (most - 1)) 0 in
    omega (arith, length-append A (0 ∷ not_closed ∷ (number_bytes 8 1 ++ (F ++ Z))), length-append F Z, length-take rooted_at (drop returns_at b), length-drop returns_at b, length-take frame_width (drop (returns_at + rooted_at) b), length-drop (returns_at + rooted_at) b, length-replicate {A = ℕ} (frame_width * (most - 1)) 0)

pub put_as : {d d₁ new : List ℕ} {at p : ℕ} (z : List ℕ) → d ≡ z → PutAs true d at new d₁ p → PutAs true z at new d₁ p
put_as {d} {d₁} {new} {at} {p} z e h = subst (λ (y : List ℕ). PutAs true y at new d₁ p) e h

pub fit_as : {s d : List ℕ} {r : Bool} (b : List ℕ) → d ≡ returning_bytes b → FitTold s (state_from d) r → FitTold s (returning_in b) r
fit_as {s} {d} {r} b e T = subst (λ (l : List ℕ). FitTold s (state_from l) r) e T

pub shaped_as : {d : List ℕ} (b : List ℕ) → d ≡ returning_bytes b → Shaped (returning_in b) → Shaped (state_from d)
shaped_as b e h = subst (λ (l : List ℕ). Shaped (state_from l)) (sym e) h

pub returns_as : {d : List ℕ} {h : Live} (b : List ℕ) → d ≡ returning_bytes b → full h (drop head_width d) ≡ tidied (state_from d) → ReturnsAs b h
returns_as {d} {h} b e k = record { is = subst (λ (l : List ℕ). full h (drop head_width l) ≡ tidied (state_from l)) e k }

pub inside_as : {t : Stand} {z h : Live} {f f' k k' : ℕ} → t ≡ inside_in z h f k → f ≡ f' → k ≡ k' → t ≡ inside_in z h f' k'
inside_as {t} {z} {h} e i j = e ∙ ap₂ (inside_in z h) i j

pub skipping_as : {t : Stand} {z : Live} {f f' n n' : ℕ} → t ≡ skipping_in z f n → f ≡ f' → n ≡ n' → t ≡ skipping_in z f' n'
skipping_as {t} {z} e i j = e ∙ ap₂ (skipping_in z) i j

pub one_left : (m : ℕ) → (m ≡ 0 → ⊥) → m ≤ 2 → (m ≡ 2 → ⊥) → m ≡ 1
one_left m a b c = omega arith

-- ---- a state's head
pub depth_in : (b : List ℕ) (h : Heading) → h ≡ heading_from b → h.depth ≡ (state_from b).depth
unfolding state_from
depth_in b h e = ap (λ (y : Heading). y.depth) e

-- ---- tests
true_false : ◌≡◌ {A = Bool} true false → ⊥
true_false e = let z : ◌≡◌ {A = ℕ} 0 1 = cc in omega arith

by_test : {P : Type 0} (r : Bool) → (r ≡ true → P) → (P → r ≡ true) → Tells P r
by_test true f g = holds (f refl)
by_test false f g = fails (λ p. true_false (sym (g p)))

fit_of : {s : List ℕ} {z : State} {r : Bool} → FitTold s z r → (a : Sheet) → IsSheet s a → Tells (FitsSheet a z) r
fit_of {s} {z} {r} T a i = subst (λ (n : ℕ). Tells (Fit (grammar_of a.rules) n z) r) (sym i.start_is) (T.tells (grammar_of a.rules) (sheet_grammar i))

over : (b : List ℕ) (area : ℕ) (a : Sheet) (m : ℕ) → 2 < m → ModeFits a b area m → ⊥
over b area a zero h p = absurd (omega arith)
over b area a (suc zero) h p = absurd (omega arith)
over b area a (suc (suc zero)) h p = absurd (omega arith)
over b area a (suc (suc (suc m))) h p = p

began_early : (b : List ℕ) (area : ℕ) (a : Sheet) (m : ℕ) → (m ≡ 0 → ⊥) → ModeFits a b area m → long_at b first_at < long_at b passed_at
began_early b area a zero h p = absurd (h refl)
began_early b area a (suc zero) h p = p.began
began_early b area a (suc (suc zero)) h p = p.began
began_early b area a (suc (suc (suc m))) h p = absurd p

both : (u v : Bool) → (u && v) ≡ true → (u ≡ true) × (v ≡ true)
both true true e = (refl, refl)
both true false e = absurd (true_false (sym e))
both false v e = absurd (true_false (sym e))

no_more : {P : Type 0} {r : Bool} → Tells P r → r ≡ false → P → ⊥
no_more (holds h) e p = true_false e
no_more (fails h) e p = h p

module _ {s b : List ℕ} {area : ℕ} where
  at_mode : {r : Bool} (m : ℕ) → byte_at b mode_at ≡ m → ((a : Sheet) → IsSheet s a → Tells (ModeFits a b area m) r) → ModeTold s b area r
  at_mode {r} m e f = record { tells = λ a i. subst (λ (n : ℕ). Tells (ModeFits a b area n) r) (sym e) (f a i) }

  pub mode_0 : (m d : ℕ) → m ≡ byte_at b mode_at → m ≡ 0 → d ≡ (state_from b).depth → ModeTold s b area (leb d 1)
  mode_0 m d e z k = at_mode 0 (sym e ∙ z) (λ a i. by_test (leb d 1) (λ t. omega (arith, leb-true d 1 t)) (λ p. le-leb d 1 (omega (arith, p))))

  pub mode_over : (m : ℕ) → m ≡ byte_at b mode_at → 2 < m → ModeTold s b area false
  mode_over m e h = at_mode m (sym e) (λ a i. fails (over b area a m h))

  pub mode_early : (m p f : ℕ) → m ≡ byte_at b mode_at → (m ≡ 0 → ⊥) → p ≡ long_at b passed_at → f ≡ long_at b first_at → p ≤ f → ModeTold s b area false
  mode_early m p f e h pe fe l = at_mode m (sym e) (λ a i. fails (λ q. omega (arith, began_early b area a m h q)))

  pub mode_2 : (m d n p f : ℕ) → m ≡ byte_at b mode_at → m ≡ 2 → d ≡ (state_from b).depth → n ≡ byte_at b refused_at → p ≡ long_at b passed_at → f ≡ long_at b first_at → f < p →
      ModeTold s b area (eqb d 1 && (leb 20 n && leb n 25))
  mode_2 m d n p f e z de ne pe fe l =
      at_mode 2 (sym e ∙ z)
      (λ a i. by_test (eqb d 1 && (leb 20 n && leb n 25))
      (λ t. let k = both (eqb d 1) (leb 20 n && leb n 25) t in
      record { one_open = sym de ∙ eqb-true d 1 k.0; began = omega arith; was_damaged = ap damaged (sym ne) ∙ k.1 })
      (λ q. ap₂ (λ (u v : Bool). u && v) (eq-eqb d 1 (de ∙ q.one_open)) (ap damaged ne ∙ q.was_damaged)))

  module _ (m : ℕ) (e : m ≡ byte_at b mode_at) (z : m ≡ 1) where
    pub mode_few : (d : ℕ) → d ≡ (state_from b).depth → d < 2 → ModeTold s b area false
    mode_few d de l = at_mode 1 (sym e ∙ z) (λ a i. fails (λ q. omega (arith, q.two_open)))

    pub mode_long : (n : ℕ) → n ≡ long_at b waiting_at → area < n → ModeTold s b area false
    mode_long n ne l = at_mode 1 (sym e ∙ z) (λ a i. fails (λ q. omega (arith, q.waits)))

    pub mode_1 : (d p f n : ℕ) {r : Bool} → d ≡ (state_from b).depth → 2 ≤ d → p ≡ long_at b passed_at → f ≡ long_at b first_at → f < p → n ≡ long_at b waiting_at → n ≤ area → FitTold s (returning_in b) r →
        ModeTold s b area r
    mode_1 d p f n {r} de dl pe fe l ne nl T = at_mode 1 (sym e ∙ z) (λ a i. by (fit_of T a i))
      where
        by : {a : Sheet} {r : Bool} → Tells (FitsSheet a (returning_in b)) r → Tells (InsideFits a b area) r
        by (holds h) = holds (record { two_open = omega arith; began = omega arith; waits = omega arith; returns = h })
        by (fails h) = fails (λ q. h q.returns)

  -- ---- all of it
  module _ {part : ℕ} where
    pub other_length : (length b ≡ salvage_width → ⊥) → SalvageTold s b area part false
    other_length h = record { tells = λ a i. fails (λ q. h q.wide) }

    pub unfit_run : {r : Bool} → FitTold s (state_from b) r → not r ≡ true → SalvageTold s b area part false
    unfit_run {r} T e = record { tells = λ a i. fails (λ q. no_more (fit_of T a i) (not-true r e) q.run) }

    pub too_far : (p : ℕ) → p ≡ long_at b passed_at → most_bytes < p → SalvageTold s b area part false
    too_far p e h = record { tells = λ a i. fails (λ q. omega (arith, q.few)) }

    pub too_long : (p : ℕ) → p ≡ long_at b passed_at → p ≤ most_bytes → most_bytes - p < part → SalvageTold s b area part false
    too_long p e l h = record { tells = λ a i. fails (λ q. omega (arith, q.few)) }

    pub fits_by_mode : {r u : Bool} (p : ℕ) → length b ≡ salvage_width → FitTold s (state_from b) u → not u ≡ false → p ≡ long_at b passed_at → p ≤ most_bytes → part ≤ most_bytes - p → ModeTold s b area r →
        SalvageTold s b area part r
    fits_by_mode {r} {u} p w T e pe l k M = record { tells = λ a i. by (fit_of T a i) (not-false u e) (M.tells a i) }
      where
        by : {a : Sheet} {r u : Bool} → Tells (FitsSheet a (state_from b)) u → u ≡ true → Tells (ModeFits a b area (byte_at b mode_at)) r → Tells (SalvageFits a b area part) r
        by (fails h) e t = absurd (true_false (sym e))
        by (holds h) e (holds q) = holds (record { wide = w; run = h; mode = q; few = omega arith })
        by (holds h) e (fails q) = fails (λ y. q y.mode)
