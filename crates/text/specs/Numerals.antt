-- Digits, decimal and hexadecimal, and the number that digits name. Definitions.
-- Assumes nothing.
use Rattle.std.specs.Prelude.{ℕ, ◌+◌, ◌-◌, ◌*◌, Bool, true, false, ◌&&◌, List, [], ◌∷◌, leb, ltb}
use Rattle.text.specs.Names.{All}

-- the first number where the test holds, else the second
abbrev pub choose : Bool → ℕ → ℕ → ℕ
choose true a b = a
choose false a b = b

-- 0 to 9, and A to F and a to f for 10 to 15; 16 for a byte that is no digit
abbrev pub digit_value : ℕ → ℕ
digit_value b = choose (leb 48 b && leb b 57) (b - 48) (choose (leb 65 b && leb b 70) (b - 55) (choose (leb 97 b && leb b 102) (b - 87) 16))

pub data Base : Type 0 where
  decimal hex : Base

abbrev pub radix : Base → ℕ
radix decimal = 10
radix hex = 16

-- the digits of a base are those whose value is below it
abbrev pub digit_below : ℕ → ℕ → Bool
digit_below r b = ltb (digit_value b) r

abbrev pub Digits : Base → List ℕ → Type 0
Digits k ds = All (digit_below (radix k)) ds

-- the number that digits name, n being named by those before them
abbrev pub value_from : (r n : ℕ) → List ℕ → ℕ
value_from r n [] = n
value_from r n (d ∷ ds) = value_from r (n * r + digit_value d) ds

-- the number that digits name; no digits name 0
abbrev pub value_of : Base → List ℕ → ℕ
value_of k ds = value_from (radix k) 0 ds
