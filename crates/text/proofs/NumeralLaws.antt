-- Which numbers are characters, by the tests that `is_char` makes; the value of a digit, by those that `digit` makes; and the number that digits name.
-- Assumes nothing.
use mathlib.Core.Path.{◌≡◌, refl, sym}
use mathlib.Core.Logic.{◌⊎◌, inl, inr, ⊎_elim}
use mathlib.Core.Bool.{Bool, true, false, true≢false}
use mathlib.Core.List.{List, [], ◌∷◌, ◌++◌}
use Prim.Native.Nat.{ℕ, ◌+◌, ◌-◌, ◌*◌, ◌≤◌, ◌<◌}
use native.Mathlib.Omega.{arith}
use lib.Dec.{leb, eqb}
use borrow.Author.Tests.{le-leb, lt-leb, leb-true, leb-false, eqb-true, eqb-false}
use Rattle.text.specs.Chars.{Char, CharIs}
use Rattle.text.specs.Numerals.{digit_value, Base, decimal, hex, radix, value_from}
use Rattle.text.proofs.Shapes.{char_low, char_most}

char_by : (c : ℕ) (t : Bool) → (t ≡ true → Char c) → (t ≡ false → Char c → ⊥) → CharIs c t
char_by c true p q = p refl
char_by c false p q = q refl

pub is_return : (c : ℕ) → c < 32 → (c ≡ 9 → ⊥) → (c ≡ 10 → ⊥) → CharIs c (eqb c 13)
is_return c h p q = char_by c (eqb c 13) (λ e. inr (inr (inl (eqb-true c 13 e)))) (λ e ok. ⊎_elim p (⊎_elim q (eqb-false c 13 e)) (char_low ok h))

pub is_high : (c : ℕ) → 0x10000 ≤ c → CharIs c (leb c 1114111)
is_high c h =
    char_by c (leb c 1114111) (λ e. inr (inr (inr (inr (inr (h, leb-true c 1114111 e)))))) (λ e ok. omega (arith, leb-false c 1114111 e, char_most ok))

-- what `is_char` answered
pub char_yes : (c : ℕ) (t : Bool) → CharIs c t → t ≡ true → Char c
char_yes c true h e = h
char_yes c false h e = absurd (true≢false (sym e))

pub char_no : (c : ℕ) (t : Bool) → CharIs c t → t ≡ false → Char c → ⊥
char_no c true h e = absurd (true≢false e)
char_no c false h e = h

-- the value of a digit, and where there is none
pub digit_decimal : (b : ℕ) → 48 ≤ b → b < 58 → b - 48 ≡ digit_value b
digit_decimal b h k = let m : b ≤ 57 = omega arith in simp (le-leb 48 b h, le-leb b 57 m)

pub digit_upper : (b : ℕ) → 65 ≤ b → b < 71 → b - 55 ≡ digit_value b
digit_upper b h k =
    let l : 48 ≤ b = omega arith in
    let m : 57 < b = omega arith in
    let n : b ≤ 70 = omega arith in
    simp (le-leb 48 b l, lt-leb b 57 m, le-leb 65 b h, le-leb b 70 n)

pub digit_lower : (b : ℕ) → 97 ≤ b → b < 103 → b - 87 ≡ digit_value b
digit_lower b h k =
    let l : 48 ≤ b = omega arith in
    let m : 57 < b = omega arith in
    let n : 65 ≤ b = omega arith in
    let o : 70 < b = omega arith in
    let q : b ≤ 102 = omega arith in
    simp (le-leb 48 b l, lt-leb b 57 m, le-leb 65 b n, lt-leb b 70 o, le-leb 97 b h, le-leb b 102 q)

pub digit_before : (b : ℕ) → b < 48 → 16 ≡ digit_value b
digit_before b h =
    let l : b < 65 = omega arith in
    let m : b < 97 = omega arith in
    simp (lt-leb 48 b h, lt-leb 65 b l, lt-leb 97 b m)

pub digit_between : (b : ℕ) → 58 ≤ b → b < 65 → 16 ≡ digit_value b
digit_between b h k =
    let l : 48 ≤ b = omega arith in
    let m : 57 < b = omega arith in
    let n : b < 97 = omega arith in
    simp (le-leb 48 b l, lt-leb b 57 m, lt-leb 65 b k, lt-leb 97 b n)

pub digit_amid : (b : ℕ) → 71 ≤ b → b < 97 → 16 ≡ digit_value b
digit_amid b h k =
    let l : 48 ≤ b = omega arith in
    let m : 57 < b = omega arith in
    let n : 65 ≤ b = omega arith in
    let o : 70 < b = omega arith in
    simp (le-leb 48 b l, lt-leb b 57 m, le-leb 65 b n, lt-leb b 70 o, lt-leb 97 b k)

pub digit_after : (b : ℕ) → 103 ≤ b → 16 ≡ digit_value b
digit_after b h =
    let l : 48 ≤ b = omega arith in
    let m : 57 < b = omega arith in
    let n : 65 ≤ b = omega arith in
    let o : 70 < b = omega arith in
    let p : 97 ≤ b = omega arith in
    let q : 102 < b = omega arith in
    simp (le-leb 48 b l, lt-leb b 57 m, le-leb 65 b n, lt-leb b 70 o, le-leb 97 b p, lt-leb b 102 q)

-- digits one after the other, and the number that is already named is the least that they can come to
pub value_append : (r n : ℕ) (ds es : List ℕ) → value_from r n (ds ++ es) ≡ value_from r (value_from r n ds) es
value_append r n [] es = refl
value_append r n (d ∷ ds) es = value_append r (n * r + digit_value d) ds es

pub value_grows : (k : Base) (n : ℕ) (ds : List ℕ) → n ≤ value_from (radix k) n ds
value_grows k n [] = omega arith
value_grows decimal n (d ∷ ds) = omega (arith, value_grows decimal (n * 10 + digit_value d) ds)
value_grows hex n (d ∷ ds) = omega (arith, value_grows hex (n * 16 + digit_value d) ds)
