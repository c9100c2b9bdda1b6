-- Laws of the first n of a row, the last of them first. Assumes nothing.
use mathlib.Core.Path.{◌≡◌, refl, ap, ap₂}
use mathlib.Core.List.{List, [], ◌∷◌}
use Prim.Native.Nat.{ℕ, zero, suc, ◌+◌, ◌-◌, ◌≤◌, ◌<◌}
use native.Mathlib.Omega.{arith}
use native.Mathlib.Numerals.{sub-one, add-one}
use lib.ListN.{length, get_or, set}
use lib.Seq.{get_or-set_same, get_or-set_other}
use Rattle.extents.specs.Held.{last_first}

pub get_d_any : {X : Type 0} (l : List X) (i : ℕ) (a b : X) → i < length l → get_or l i a ≡ get_or l i b
get_d_any [] i a b h = absurd (omega arith)
get_d_any (x ∷ l) zero a b h = refl
get_d_any (x ∷ l) (suc i) a b h = get_d_any l i a b (omega arith)

module _ {X Y : Type 0} (f : X → Y) (d : X) where
  pub long : (xs : List X) (n : ℕ) → length (last_first f d xs n) ≡ n
  long xs zero = refl
  long xs (suc n) = ap suc (long xs n)

  below : (xs : List X) (n m : ℕ) (x : X) → m ≤ n → last_first f d (set xs n x) m ≡ last_first f d xs m
  below xs n zero x h = refl
  below xs n (suc m) x h = ap₂ (λ y ys. f y ∷ ys) (get_or-set_other xs n m x d (λ e. omega arith)) (below xs n m x (omega arith))

  pub pushed : (xs : List X) (n : ℕ) (x : X) → n < length xs → last_first f d (set xs n x) (n + 1) ≡ f x ∷ last_first f d xs n
  pushed xs n x h = rw (add-one n) (ap₂ (λ y ys. f y ∷ ys) (get_or-set_same xs n x d h) (below xs n n x (omega arith)))

  pub top : (xs : List X) (n : ℕ) (z : X) → 0 < n → n ≤ length xs → last_first f d xs n ≡ f (get_or xs (n - 1) z) ∷ last_first f d xs (n - 1)
  top xs zero z h g = absurd (omega arith)
  top xs (suc n) z h g = rw sub-one (ap (λ y. f y ∷ last_first f d xs n) (get_d_any xs n d z (omega arith)))
