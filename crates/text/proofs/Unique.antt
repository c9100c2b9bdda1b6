-- No two characters start the same bytes, so any two answers of `decode` are equal.
-- Assumes nothing.
use mathlib.Core.Path.{◌≡◌, refl, sym, ap, ap₂, ◌∙◌}
use mathlib.Core.Logic.{inl, inr, ⊎_elim}
use mathlib.Core.List.{List, [], ◌∷◌, ◌++◌, append_assoc, append-nil, append_cancel_left, head-eq_of_cons-eq, tail-eq_of_cons-eq}
use Prim.Native.Nat.{ℕ, ◌+◌, ◌/◌, ◌%◌}
use native.Mathlib.Omega.{arith}
use lib.ListN.{length}
use Rattle.text.specs.Chars.{utf8, Starts, Begins, Apart, DecodedIs}
use Rattle.text.specs.declared.Decoded.{Decoded}
use Rattle.text.specs.declared.Decoded.TheVariants.{Whole, Begun, Bad}
use Rattle.text.proofs.Shapes.{Range, range, shape1, shape2, shape3, shape4, lead, lead2, lead3, lead4, cons≢[]}

-- no two characters start the same bytes
pub char_one : (c d : ℕ) (u v : List ℕ) → utf8 c ++ u ≡ utf8 d ++ v → c ≡ d
char_one c d u v e = go (range c)
  where
    to : {w : List ℕ} → utf8 c ≡ w → w ++ u ≡ utf8 d ++ v
    to s = sym (ap (λ (l : List ℕ). l ++ u) s) ∙ e

    go : Range c → c ≡ d
    go (inl h) =
        ⊎_elim (λ w. w.1) (⊎_elim (λ w. absurd (omega arith)) (⊎_elim (λ w. absurd (omega arith)) (λ w. absurd (omega arith))))
        (lead c u d v (to (shape1 c h)))
    go (inr (inl h)) =
        let i = lead2 (0xC0 + c / 64) ((0x80 + c % 64) ∷ u) d v (omega arith) (omega arith) (to (shape2 c h.0 (omega arith))) in
        omega (arith, i.1, head-eq_of_cons-eq i.2)
    go (inr (inr (inl h))) =
        let i = lead3 (0xE0 + c / 4096) ((0x80 + c / 64 % 64) ∷ (0x80 + c % 64) ∷ u) d v (omega arith) (omega arith) (to (shape3 c h.0 (omega arith))) in
        let q : c / 64 ≡ d / 64 = omega (arith, i.1, head-eq_of_cons-eq i.2) in
        omega (arith, head-eq_of_cons-eq (tail-eq_of_cons-eq i.2))
    go (inr (inr (inr h))) =
        let i = lead4 (0xF0 + c / 262144) ((0x80 + c / 4096 % 64) ∷ (0x80 + c / 64 % 64) ∷ (0x80 + c % 64) ∷ u) d v (omega arith) (to (shape4 c h)) in
        let p : c / 4096 ≡ d / 4096 = omega (arith, i.1, head-eq_of_cons-eq i.2) in
        let q : c / 64 ≡ d / 64 = omega (arith, p, head-eq_of_cons-eq (tail-eq_of_cons-eq i.2)) in
        omega (arith, q, head-eq_of_cons-eq (tail-eq_of_cons-eq (tail-eq_of_cons-eq i.2)))

-- Any two answers of `decode` are equal.
nil_right : (u v : List ℕ) → u ++ v ≡ [] → v ≡ []
nil_right [] v e = e
nil_right (x ∷ u) v e = absurd (cons≢[] e)

pub whole_begun : (f : List ℕ) (c d : ℕ) → Starts f (utf8 c) → Begins f (utf8 d) → ⊥
whole_begun f c d (v, e) (u, w, n) =
    let k : utf8 c ++ (v ++ u) ≡ utf8 d ++ [] = sym (append_assoc (utf8 c) v u) ∙ ap (λ (l : List ℕ). l ++ u) (sym e) ∙ sym w ∙ sym (append-nil (utf8 d)) in
    let p : c ≡ d = char_one c d (v ++ u) [] k in
    n (nil_right v u (append_cancel_left (utf8 d) (v ++ u) [] (ap (λ (z : ℕ). utf8 z ++ (v ++ u)) (sym p) ∙ k)))

pub whole_bad : (f : List ℕ) (c : ℕ) → Starts f (utf8 c) → Apart f (utf8 c) → ⊥
whole_bad f c s a = a [] s.0 (append-nil f ∙ s.1)

pub begun_bad : (f : List ℕ) (c : ℕ) → Begins f (utf8 c) → Apart f (utf8 c) → ⊥
begun_bad f c b a = a b.0 [] (sym b.1 ∙ sym (append-nil (utf8 c)))

pub decoded_one : (f : List ℕ) (r r' : Decoded) → DecodedIs f r → DecodedIs f r' → r ≡ r'
decoded_one f (Whole c n) (Whole c' n') (ok, s, l) (ok', s', l') =
    let p : c ≡ c' = char_one c c' s.0 s'.0 (sym s.1 ∙ s'.1) in
    ap₂ (λ (x y : ℕ). Whole x y) p (l ∙ ap (λ (x : ℕ). length (utf8 x)) p ∙ sym l')
decoded_one f (Whole c n) Begun d d' = absurd (whole_begun f c d'.0 d.1 d'.2)
decoded_one f (Whole c n) Bad d d' = absurd (whole_bad f c d.1 (d' c d.0))
decoded_one f Begun (Whole c n) d d' = absurd (whole_begun f c d.0 d'.1 d.2)
decoded_one f Begun Begun d d' = refl
decoded_one f Begun Bad d d' = absurd (begun_bad f d.0 d.2 (d' d.0 d.1))
decoded_one f Bad (Whole c n) d d' = absurd (whole_bad f c d'.1 (d c d'.0))
decoded_one f Bad Begun d d' = absurd (begun_bad f d'.0 d'.2 (d d'.0 d'.1))
decoded_one f Bad Bad d d' = refl
