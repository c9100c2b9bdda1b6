-- The characters that the bytes of characters spell are those characters: by the four ranges of a character its first byte tells how many bytes come
-- after it, and each adds its six bits.
-- Assumes nothing.
use mathlib.Core.Path.{◌≡◌, refl, ◌∙◌, ap}
use mathlib.Core.Logic.{inl, inr}
use mathlib.Core.List.{List, [], ◌∷◌, ◌++◌}
use Prim.Native.Nat.{ℕ, ◌+◌, ◌-◌, ◌*◌, ◌/◌, ◌%◌}
use native.Mathlib.Omega.{arith}
use borrow.Author.Tests.{le-ltb, lt-ltb}
use Rattle.text.specs.Chars.{utf8}
use Rattle.text.proofs.Shapes.{Range, range, shape1, shape2, shape3, shape4}
use Rattle.text.specs.Characters.{utf8s}
use Rattle.runs.specs.Characters.{characters_of}

abbrev Bytes : Type 0
Bytes = List ℕ

one_character_lem : (c : ℕ) (l : Bytes) → characters_of (utf8 c ++ l) ≡ c ∷ characters_of l
one_character_lem c l = go (range c)
  where
    spelled : {w : Bytes} → utf8 c ≡ w → characters_of (utf8 c ++ l) ≡ characters_of (w ++ l)
    spelled s = ap (λ (z : Bytes). characters_of (z ++ l)) s

    head_is : {d : ℕ} → d ≡ c → d ∷ characters_of l ≡ c ∷ characters_of l
    head_is e = ap (λ (z : ℕ). z ∷ characters_of l) e

    go : Range c → characters_of (utf8 c ++ l) ≡ c ∷ characters_of l
    go (inl h) =
        let e : characters_of (c ∷ l) ≡ c ∷ characters_of l = simp (lt-ltb c 0x80 h) in
        spelled (shape1 c h) ∙ e
    go (inr (inl (h, k))) =
        let a : ℕ = 0xC0 + c / 64 in
        let b : ℕ = 0x80 + c % 64 in
        let e : characters_of (a ∷ b ∷ l) ≡ ((a - 0xC0) * 64 + (b - 0x80)) ∷ characters_of l = simp (le-ltb a 0x80 (omega arith), lt-ltb a 0xE0 (omega arith)) in
        spelled (shape2 c h (omega arith)) ∙ e ∙ head_is (omega arith)
    go (inr (inr (inl (h, k)))) =
        let a : ℕ = 0xE0 + c / 4096 in
        let b : ℕ = 0x80 + c / 64 % 64 in
        let d : ℕ = 0x80 + c % 64 in
        let e : characters_of (a ∷ b ∷ d ∷ l) ≡ (((a - 0xE0) * 64 + (b - 0x80)) * 64 + (d - 0x80)) ∷ characters_of l =
        simp (le-ltb a 0x80 (omega arith), le-ltb a 0xE0 (omega arith), lt-ltb a 0xF0 (omega arith)) in
        spelled (shape3 c h (omega arith)) ∙ e ∙ head_is (omega arith)
    go (inr (inr (inr h))) =
        let a : ℕ = 0xF0 + c / 262144 in
        let b : ℕ = 0x80 + c / 4096 % 64 in
        let d : ℕ = 0x80 + c / 64 % 64 in
        let f : ℕ = 0x80 + c % 64 in
        let e : characters_of (a ∷ b ∷ d ∷ f ∷ l) ≡ ((((a - 0xF0) * 64 + (b - 0x80)) * 64 + (d - 0x80)) * 64 + (f - 0x80)) ∷ characters_of l =
        simp (le-ltb a 0x80 (omega arith), le-ltb a 0xE0 (omega arith), le-ltb a 0xF0 (omega arith)) in
        let twelve : (a - 0xF0) * 64 + (b - 0x80) ≡ c / 4096 = omega arith in
        let six : ((a - 0xF0) * 64 + (b - 0x80)) * 64 + (d - 0x80) ≡ c / 64 = omega (arith, twelve) in
        spelled (shape4 c h) ∙ e ∙ head_is (omega (arith, six))

pub characters_of_lem : (cs : List ℕ) → characters_of (utf8s cs) ≡ cs
characters_of_lem [] = refl
characters_of_lem (c ∷ cs) = one_character_lem c (utf8s cs) ∙ ap (λ (l : List ℕ). c ∷ l) (characters_of_lem cs)
