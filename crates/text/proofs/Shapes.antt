-- The bytes of a character by the range it lies in, what a first byte tells of the character, and lists by their first bytes.
-- Assumes nothing.
use mathlib.Core.Path.{◌≡◌, refl, ap, ◌∙◌}
use mathlib.Core.Logic.{◌⊎◌, inl, inr, ⊎_elim}
use mathlib.Core.List.{List, [], ◌∷◌, ◌++◌}
use Prim.Native.Nat.{ℕ, ◌+◌, ◌/◌, ◌%◌, ◌≤◌, ◌<◌}
use native.Mathlib.Omega.{arith}
use native.Mathlib.Decide.{dec_lt}
use lib.ListN.{length, get_or, drop}
use borrow.Author.Tests.{lt-ltb, le-ltb}
use Rattle.text.specs.Chars.{In, Char, utf8}

-- a list by its first bytes, as the code reads them
pub front1 : (f : List ℕ) → 1 ≤ length f → f ≡ get_or f 0 0 ∷ drop 1 f
front1 [] h = absurd (omega arith)
front1 (a ∷ f) h = refl

pub front2 : (f : List ℕ) → 2 ≤ length f → f ≡ get_or f 0 0 ∷ get_or f 1 0 ∷ drop 2 f
front2 [] h = absurd (omega arith)
front2 (a ∷ []) h = absurd (omega arith)
front2 (a ∷ b ∷ f) h = refl

pub front3 : (f : List ℕ) → 3 ≤ length f → f ≡ get_or f 0 0 ∷ get_or f 1 0 ∷ get_or f 2 0 ∷ drop 3 f
front3 [] h = absurd (omega arith)
front3 (a ∷ []) h = absurd (omega arith)
front3 (a ∷ b ∷ []) h = absurd (omega arith)
front3 (a ∷ b ∷ d ∷ f) h = refl

pub front4 : (f : List ℕ) → 4 ≤ length f → f ≡ get_or f 0 0 ∷ get_or f 1 0 ∷ get_or f 2 0 ∷ get_or f 3 0 ∷ drop 4 f
front4 [] h = absurd (omega arith)
front4 (a ∷ []) h = absurd (omega arith)
front4 (a ∷ b ∷ []) h = absurd (omega arith)
front4 (a ∷ b ∷ d ∷ []) h = absurd (omega arith)
front4 (a ∷ b ∷ d ∷ e ∷ f) h = refl

pub none_left : (f : List ℕ) → length f ≡ 0 → f ≡ []
none_left [] h = refl
none_left (a ∷ f) h = absurd (omega arith)

-- the bytes of a character, by its range
pub shape1 : (c : ℕ) → c < 0x80 → utf8 c ≡ c ∷ []
unfolding utf8
shape1 c h = simp (lt-ltb _ _ h)

pub shape2 : (c : ℕ) → 0x80 ≤ c → c < 0x800 → utf8 c ≡ (0xC0 + c / 64) ∷ (0x80 + c % 64) ∷ []
unfolding utf8
shape2 c h k = simp (le-ltb _ _ h, lt-ltb _ _ k)

pub shape3 : (c : ℕ) → 0x800 ≤ c → c < 0x10000 → utf8 c ≡ (0xE0 + c / 4096) ∷ (0x80 + c / 64 % 64) ∷ (0x80 + c % 64) ∷ []
unfolding utf8
shape3 c h k =
    let l : 0x80 ≤ c = omega arith in
    simp (le-ltb _ _ l, le-ltb _ _ h, lt-ltb _ _ k)

pub shape4 : (c : ℕ) → 0x10000 ≤ c
    → utf8 c ≡ (0xF0 + c / 262144) ∷ (0x80 + c / 4096 % 64) ∷ (0x80 + c / 64 % 64) ∷ (0x80 + c % 64) ∷ []
unfolding utf8
shape4 c h =
    let l : 0x80 ≤ c = omega arith in
    let m : 0x800 ≤ c = omega arith in
    simp (le-ltb _ _ l, le-ltb _ _ m, le-ltb _ _ h)

-- the four ranges
abbrev pub Range : ℕ → Type 0
Range c = (c < 0x80) ⊎ (In 0x80 c 0x7FF ⊎ (In 0x800 c 0xFFFF ⊎ (0x10000 ≤ c)))

pub range : (c : ℕ) → Range c
range c = go (dec_lt c 0x80) (dec_lt c 0x800) (dec_lt c 0x10000)
  where
    go : Dec (c < 0x80) → Dec (c < 0x800) → Dec (c < 0x10000) → Range c
    go (yes a) b d = inl a
    go (no a) (yes b) d = inr (inl (omega arith))
    go (no a) (no b) (yes d) = inr (inr (inl (omega arith)))
    go (no a) (no b) (no d) = inr (inr (inr (omega arith)))

-- what the first byte b of f tells of a character c that agrees with f: its range, and what is left to agree
abbrev pub Lead : ℕ → List ℕ → ℕ → List ℕ → Type 0
Lead b g c u =
    ((c < 0x80) × (b ≡ c)) ⊎
    ((In 0x80 c 0x7FF × (b ≡ 0xC0 + c / 64) × (g ≡ (0x80 + c % 64) ∷ u)) ⊎
    ((In 0x800 c 0xFFFF × (b ≡ 0xE0 + c / 4096) × (g ≡ (0x80 + c / 64 % 64) ∷ (0x80 + c % 64) ∷ u)) ⊎
    ((0x10000 ≤ c) × (b ≡ 0xF0 + c / 262144) × (g ≡ (0x80 + c / 4096 % 64) ∷ (0x80 + c / 64 % 64) ∷ (0x80 + c % 64) ∷ u))))

pub lead : (b : ℕ) (g : List ℕ) (c : ℕ) (u : List ℕ) → b ∷ g ≡ utf8 c ++ u → Lead b g c u
lead b g c u e = go (range c)
  where
    to : {w : List ℕ} → utf8 c ≡ w → b ∷ g ≡ w ++ u
    to s = e ∙ ap (λ (l : List ℕ). l ++ u) s

    go : Range c → Lead b g c u
    go (inl h) = let k = to (shape1 c h) in inl (h, cc)
    go (inr (inl h)) = let k = to (shape2 c h.0 (omega arith)) in inr (inl (h, (cc), (cc)))
    go (inr (inr (inl h))) = let k = to (shape3 c h.0 (omega arith)) in inr (inr (inl (h, (cc), (cc))))
    go (inr (inr (inr h))) = let k = to (shape4 c h) in inr (inr (inr (h, (cc), (cc))))

-- a first byte of two, three, four
pub lead2 : (b : ℕ) (g : List ℕ) (c : ℕ) (u : List ℕ) → 0xC2 ≤ b → b < 0xE0 → b ∷ g ≡ utf8 c ++ u
    → In 0x80 c 0x7FF × (b ≡ 0xC0 + c / 64) × (g ≡ (0x80 + c % 64) ∷ u)
lead2 b g c u h k e = ⊎_elim (λ w. absurd (omega arith)) (⊎_elim (λ w. w) (⊎_elim (λ w. absurd (omega arith)) (λ w. absurd (omega arith)))) (lead b g c u e)

pub lead3 : (b : ℕ) (g : List ℕ) (c : ℕ) (u : List ℕ) → 0xE0 ≤ b → b < 0xF0 → b ∷ g ≡ utf8 c ++ u
    → In 0x800 c 0xFFFF × (b ≡ 0xE0 + c / 4096) × (g ≡ (0x80 + c / 64 % 64) ∷ (0x80 + c % 64) ∷ u)
lead3 b g c u h k e = ⊎_elim (λ w. absurd (omega arith)) (⊎_elim (λ w. absurd (omega arith)) (⊎_elim (λ w. w) (λ w. absurd (omega arith)))) (lead b g c u e)

pub lead4 : (b : ℕ) (g : List ℕ) (c : ℕ) (u : List ℕ) → 0xF0 ≤ b → b ∷ g ≡ utf8 c ++ u
    → (0x10000 ≤ c) × (b ≡ 0xF0 + c / 262144) × (g ≡ (0x80 + c / 4096 % 64) ∷ (0x80 + c / 64 % 64) ∷ (0x80 + c % 64) ∷ u)
lead4 b g c u h e = ⊎_elim (λ w. absurd (omega arith)) (⊎_elim (λ w. absurd (omega arith)) (⊎_elim (λ w. absurd (omega arith)) (λ w. w))) (lead b g c u e)

-- the Char set in four parts, and what it has not
pub char_cases : {X : Type 0} {c : ℕ} → Char c
    → ((c ≡ 0x9) ⊎ ((c ≡ 0xA) ⊎ (c ≡ 0xD)) → X) → (In 0x20 c 0xD7FF → X) → (In 0xE000 c 0xFFFD → X) → (In 0x10000 c 0x10FFFF → X) → X
char_cases (inl h) p q r s = p (inl h)
char_cases (inr (inl h)) p q r s = p (inr (inl h))
char_cases (inr (inr (inl h))) p q r s = p (inr (inr h))
char_cases (inr (inr (inr (inl h)))) p q r s = q h
char_cases (inr (inr (inr (inr (inl h))))) p q r s = r h
char_cases (inr (inr (inr (inr (inr h))))) p q r s = s h

pub char_low : {c : ℕ} → Char c → c < 0x20 → (c ≡ 0x9) ⊎ ((c ≡ 0xA) ⊎ (c ≡ 0xD))
char_low ok h = char_cases ok (λ w. w) (λ w. absurd (omega arith)) (λ w. absurd (omega arith)) (λ w. absurd (omega arith))

low_most : {c : ℕ} → (c ≡ 0x9) ⊎ ((c ≡ 0xA) ⊎ (c ≡ 0xD)) → c ≤ 0xD
low_most w = ⊎_elim (λ x. omega arith) (⊎_elim (λ x. omega arith) (λ x. omega arith)) w

pub char_most : {c : ℕ} → Char c → c ≤ 0x10FFFF
char_most ok = char_cases ok (λ w. omega (arith, low_most w)) (λ w. omega arith) (λ w. omega arith) (λ w. omega arith)

pub no_surrogate : {c : ℕ} → Char c → 0xD800 ≤ c → c < 0xE000 → ⊥
no_surrogate ok h k = char_cases ok (λ w. omega (arith, low_most w)) (λ w. omega arith) (λ w. omega arith) (λ w. omega arith)

pub no_fffe : {c : ℕ} → Char c → 0xFFFE ≤ c → c < 0x10000 → ⊥
no_fffe ok h k = char_cases ok (λ w. omega (arith, low_most w)) (λ w. omega arith) (λ w. omega arith) (λ w. omega arith)

-- a list that has a byte is not empty
pub cons≢[] : {x : ℕ} {l : List ℕ} → x ∷ l ≡ [] → ⊥
cons≢[] e = let z : ◌≡◌ {A = ℕ} 0 1 = cc in omega arith
