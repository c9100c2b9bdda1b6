-- Rows by their bytes: equal where the library's comparison of slices says so. Assumes nothing.
use mathlib.Core.Path.{◌≡◌, refl, ap}
use mathlib.Core.Bool.{Bool, ◌&&◌}
use mathlib.Core.List.{List, [], ◌∷◌}
use Prim.Native.Nat.{ℕ}
use lib.Dec.{eqb}
use Rattle.std.specs.Cmp.Lexicographic.{pointwise}
use Rattle.encoding.specs.Distinct.{equal}

pub pointwise_equal : (a b : List ℕ) → pointwise eqb a b ≡ equal a b
pointwise_equal [] [] = refl
pointwise_equal [] (y ∷ b) = refl
pointwise_equal (x ∷ a) [] = refl
pointwise_equal (x ∷ a) (y ∷ b) = ap (λ (c : Bool). eqb x y && c) (pointwise_equal a b)
