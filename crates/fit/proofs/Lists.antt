-- What holds of each of a list holds at each index; of the first n too.
-- Assumes nothing.
use mathlib.Core.Path.{◌≡◌, refl}
use mathlib.Core.List.{List, [], ◌∷◌}
use Prim.Native.Nat.{ℕ, zero, suc, ◌<◌, ◌≤◌}
use native.Mathlib.Omega.{arith}
use lib.ListN.{length, get_or, take, drop}
use lib.Dec.{leb}
use Rattle.std.specs.List.{list_all}
use Rattle.tells.specs.Tells.{Tells, holds}
use Rattle.tells.proofs.Laws.{both_told, as_told, leb_tells}
use Rattle.programs.specs.Bounds.{bounds}
use Rattle.programs.specs.Limits.{Value}
use Rattle.state.specs.Meaning.{Every, none, more}

pub all_at : {X : Type 0} {P : X → Type 0} (l : List X) (i : ℕ) (d : X) → i < length l → Every P l → P (get_or l i d)
all_at [] i d h a = absurd (omega arith)
all_at (x ∷ l) zero d h (more p a) = p
all_at (x ∷ l) (suc i) d h (more p a) = all_at l i d (omega arith) a

pub length_first : {X : Type 0} (n : ℕ) (l : List X) → n ≤ length l → length (take n l) ≡ n
length_first zero l h = refl
length_first (suc n) [] h = absurd (omega arith)
length_first (suc n) (x ∷ l) h = omega (arith, length_first n l (omega arith))

-- the test of each value
pub values_told : (l : List ℕ) → Tells (Every Value l) (list_all (λ v. leb v bounds.highest_value) l)
values_told [] = holds none
values_told (v ∷ l) = as_told (λ h. more h.0 h.1) (elim [ more p a ↦ (p, a) ]) (both_told (leb_tells v bounds.highest_value) (values_told l))

pub drop_past : {X : Type 0} (i : ℕ) (l : List X) → length l ≤ i → drop i l ≡ []
drop_past zero [] h = refl
drop_past (suc i) [] h = refl
drop_past zero (x ∷ l) h = absurd (omega arith)
drop_past (suc i) (x ∷ l) h = drop_past i l (omega arith)

pub all_take : {X : Type 0} {P : X → Type 0} (n : ℕ) (l : List X) → Every P l → Every P (take n l)
all_take zero l a = none
all_take (suc n) [] a = none
all_take (suc n) (x ∷ l) (more p a) = more p (all_take n l a)
