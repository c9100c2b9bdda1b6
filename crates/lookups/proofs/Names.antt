-- Names by their bytes are compared as slices are. A tag's name is what follows its first byte.
-- Assumes nothing.
use mathlib.Core.Path.{◌≡◌, refl, sym, ap, ◌∙◌}
use mathlib.Core.Bool.{Bool, false, ◌&&◌}
use mathlib.Core.List.{List, [], ◌∷◌}
use Prim.Native.Nat.{ℕ, ◌+◌, ◌-◌, ◌<◌}
use native.Mathlib.Omega.{arith}
use lib.Dec.{eqb}
use Rattle.std.specs.Cmp.Lexicographic.{pointwise}
use lib.ListN.{length, get_or, take, drop, replicate}
use lib.Seq.{take_at}
use Rattle.sheet.specs.Tags.{tag_record}
use Rattle.calls.specs.Names.{same_name}
use Rattle.lookups.specs.Tests.{NameTold}

pub same_pointwise : (a b : List ℕ) → pointwise eqb a b ≡ same_name a b
same_pointwise [] [] = refl
same_pointwise [] (y ∷ b) = refl
same_pointwise (x ∷ a) [] = refl
same_pointwise (x ∷ a) (y ∷ b) = ap (λ (c : Bool). eqb x y && c) (same_pointwise a b)

-- a tag's first byte is the length of its name
module _ (b name : List ℕ) (n : ℕ) (first : n ≡ get_or b 0 0) where
  counted : (m : List ℕ) → b ≡ tag_record m → length m ≡ n
  counted m e = sym (first ∙ ap (λ (l : List ℕ). get_or l 0 0) e)

  pub name_too_long : 15 < n → NameTold b name false
  name_too_long h = record { is = λ m short e. absurd (omega (arith, counted m e)) }

  pub name_told : (r : Bool) → r ≡ same_name (take (n + 1 - 1) (drop 1 b)) name → NameTold b name r
  name_told r h =
      record {
        is = λ m short e.
            let k : length m ≡ n + 1 - 1 = omega (arith, counted m e) in
            let fill : List ℕ = replicate (15 - length m) 0 in
            let t : take (n + 1 - 1) (drop 1 b) ≡ m = ap (λ (l : List ℕ). take (n + 1 - 1) (drop 1 l)) e ∙ take_at m fill (n + 1 - 1) k in
            h ∙ ap (λ (l : List ℕ). same_name l name) t;
      }
