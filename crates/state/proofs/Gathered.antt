-- Laws of reading a state. A loop that fills an array is stated by what is left to read (fill_more); one that adds up a number goes from its
-- highest byte down (number_more), below 256 to the number of bytes read, so that no product wraps.
use mathlib.Core.Path.{◌≡◌, refl, sym, ap, ap₂, ◌∙◌}
use mathlib.Core.List.{List, ◌∷◌, ◌++◌, append-nil}
use Prim.Native.Nat.{ℕ, zero, suc, ◌+◌, ◌-◌, ◌*◌, ◌^◌, ◌<◌, ◌≤◌}
use native.Mathlib.Nat.{mul-suc, mul-zero, pow-suc, pow-le-pow_right}
use native.Mathlib.Omega.{arith}
use native.Mathlib.Numerals.{add-one}
use lib.ListN.{length, get_or, set, take, replicate, drop_of_length-le}
use lib.Seq.{sets, sets-eq}
use Rattle.std.specs.Prelude.{min}
use Rattle.std.proofs.lemmas.List.{take_min}
use Rattle.state.specs.Changes.{bare_from}
use Rattle.layout.specs.Layout.{byte_at}
use Rattle.state.specs.Bytes.{number, gathered, bytes_at}
use Rattle.state.proofs.Tidy.{bare_is, bare_next, bare_none}

pub length_gathered : {X : Type 0} (f : ℕ → X) (w at n : ℕ) → length (gathered f w at n) ≡ n
unfolding gathered
length_gathered f w at zero = refl
length_gathered f w at (suc n) = ap suc (length_gathered f w (at + w) n)

pub take_gathered : {X : Type 0} (f : ℕ → X) (w at n m : ℕ) → n ≤ m → take n (gathered f w at m) ≡ gathered f w at n
unfolding gathered
take_gathered f w at zero m h = refl
take_gathered f w at (suc n) zero h = absurd (omega arith)
take_gathered {X} f w at (suc n) (suc m) h = ap (λ (l : List X). f at ∷ l) (take_gathered f w (at + w) n m (omega arith))

pub get_D_gathered : {X : Type 0} (f : ℕ → X) (w at n i : ℕ) (z : X) → i < n → get_or (gathered f w at n) i z ≡ f (at + w * i)
unfolding gathered
get_D_gathered f w at zero i z h = absurd (omega arith)
get_D_gathered f w at (suc n) zero z h = rw mul-zero (let e : at + 0 ≡ at = omega arith in rw e)
get_D_gathered f w at (suc n) (suc i) z h =
    let e : at + w + w * i ≡ at + w * suc i = rw mul-suc (omega arith) in
    get_D_gathered f w (at + w) n i z (omega arith) ∙ ap f e

pub fill_all : {X : Type 0} (f : ℕ → X) (w at n : ℕ) (l : List X) → length l ≡ n → sets l 0 (gathered f w at n) ≡ gathered f w at n
fill_all f w at n l e =
    let g : length l ≤ 0 + length (gathered f w at n) = omega (arith, length_gathered f w at n) in
    sets-eq (gathered f w at n) l 0 (omega (arith, length_gathered f w at n)) ∙ rw (drop_of_length-le l g) (append-nil (gathered f w at n))

pub fill_more : {X : Type 0} (f : ℕ → X) (w at n i : ℕ) (l : List X) → i < n →
    sets (set l i (f at)) (i + 1) (gathered f w (at + w) (n - (i + 1))) ≡ sets l i (gathered f w at (n - i))
unfolding gathered
fill_more f w at n i l h = let e : n - i ≡ suc (n - (i + 1)) = omega arith in rw (e, add-one)

pub fill_none : {X : Type 0} (f : ℕ → X) (w at n i : ℕ) (l : List X) → n ≤ i → sets l i (gathered f w at (n - i)) ≡ l
unfolding gathered
fill_none f w at n i l h = let e : n - i ≡ 0 = omega arith in rw e

pub number_more : (b : List ℕ) (at i : ℕ) → 0 < i → i ≤ 8 →
    number (bytes_at b (at + (i - 1)) (8 - (i - 1))) ≡ number (bytes_at b (at + i) (8 - i)) * 256 + byte_at b (at + (i - 1))
unfolding number gathered
number_more b at i p h =
    let e : 8 - (i - 1) ≡ suc (8 - i) = omega arith in
    let g : at + (i - 1) + 1 ≡ at + i = omega arith in
    rw (e, g) (omega arith)

pub number_room : (i n : ℕ) → 0 < i → n < 256 ^ (8 - i) → n < 256 ^ 7
number_room i n h p =
    let k : 8 - i ≤ 7 = omega arith in
    let e : 256 ^ (8 - i) ≤ 256 ^ 7 = pow-le-pow_right (omega arith) k in
    omega arith

pub number_below : (i n b : ℕ) → 0 < i → i ≤ 8 → n < 256 ^ (8 - i) → b < 256 → n * 256 + b < 256 ^ (8 - (i - 1))
number_below i n b h k p q = let e : 8 - (i - 1) ≡ suc (8 - i) = omega arith in rw (e, pow-suc) (omega arith)

-- of n things the first i are read, the others bare: none yet, one more, and all that there are
pub none_read : {X : Type 0} (bare x : X) (f : ℕ → X) (w at n : ℕ) → x ≡ bare → replicate n x ≡ bare_from bare 0 (gathered f w at n)
none_read bare x f w at n e =
    let k : n ≡ length (gathered f w at n) - 0 = omega (arith, length_gathered f w at n) in
    ap (replicate n) e ∙ ap (λ (m : ℕ). replicate m bare) k ∙ sym (bare_is bare 0 (gathered f w at n))

pub one_read : {X : Type 0} (bare x : X) (f : ℕ → X) (w at n i next : ℕ) (l : List X) → i < n → next ≡ at + w * i → x ≡ f next →
    l ≡ bare_from bare i (gathered f w at n) → set l i x ≡ bare_from bare (i + 1) (gathered f w at n)
one_read {X} bare x f w at n i next l h p q e =
    let g : List X = gathered f w at n in
    ap₂ (λ (k : List X) (y : X). set k i y) e (q ∙ ap f p ∙ sym (get_D_gathered f w at n i bare h))
    ∙ bare_next bare bare i g (omega (arith, length_gathered f w at n)) ∙ rw add-one

pub all_read : {X : Type 0} (bare : X) (f : ℕ → X) (w at n m : ℕ) → bare_from bare (min m n) (gathered f w at n) ≡ bare_from bare m (gathered f w at n)
all_read {X} bare f w at n m =
    let g : List X = gathered f w at n in
    let e : min m (length g) ≡ min m n = ap (min m) (length_gathered f w at n) in
    let k : length g - min m n ≡ length g - m = omega (arith, length_gathered f w at n) in
    bare_is bare (min m n) g ∙ ap₂ (λ (l r : List X). l ++ r) (ap (λ (i : ℕ). take i g) (sym e) ∙ take_min m g) (ap (λ (i : ℕ). replicate i bare) k) ∙ sym (bare_is bare m g)

pub whole_read : {X : Type 0} (bare : X) (f : ℕ → X) (w at n : ℕ) → bare_from bare n (gathered f w at n) ≡ gathered f w at n
whole_read bare f w at n = bare_none bare n _ (omega (arith, length_gathered f w at n))
