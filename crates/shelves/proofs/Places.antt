-- Where a row is stays where it is, and how many rows fit. Assumes nothing.
use mathlib.Core.Path.{◌≡◌, sym, ◌∙◌, ap, subst}
use mathlib.Core.Logic.{inl, inr}
use mathlib.Core.Bool.{Bool, true, false, cond, ◌||◌}
use mathlib.Core.List.{List, [], ◌∷◌, ◌++◌}
use Prim.Native.Nat.{ℕ, suc, ◌*◌, ◌≤◌}
use native.Mathlib.Omega.{arith}
use lib.ListN.{length, length-append}
use Rattle.encoding.specs.Distinct.{has, added, distinct, AllDifferent, place_of, offset_of, run_together}
use Rattle.encoding.proofs.Stored.{added_different}
use Rattle.stores.specs.Mentioned.{TooManyFor}
use Rattle.stores.proofs.Grows.{grows_behind, grows_by_one, places_stay, offsets_stay}
use Rattle.stores.proofs.Behind.{together}
use Rattle.shelves.proofs.Rows.{last_had}

-- among all the rows, of which these are the first
pub final_place : (l more all : List (List ℕ)) (x : List ℕ) → all ≡ (l ++ x ∷ []) ++ more → place_of (distinct (l ++ x ∷ [])) x ≡ place_of (distinct all) x
final_place l more all x e =
    sym (places_stay (distinct (l ++ x ∷ [])) (added (distinct (l ++ x ∷ [])) more) x (last_had l x))
    ∙ ap (λ (z : List (List ℕ)). place_of z x) (sym (grows_behind (l ++ x ∷ []) more) ∙ ap distinct (sym e))

pub final_offset : (l more all : List (List ℕ)) (x : List ℕ) → all ≡ (l ++ x ∷ []) ++ more → offset_of (distinct (l ++ x ∷ [])) x ≡ offset_of (distinct all) x
final_offset l more all x e =
    sym (offsets_stay (distinct (l ++ x ∷ [])) (added (distinct (l ++ x ∷ [])) more) x (last_had l x))
    ∙ ap (λ (z : List (List ℕ)). offset_of z x) (sym (grows_behind (l ++ x ∷ []) more) ∙ ap distinct (sym e))

-- mentioned twice is stored once
pub twice : (l : List (List ℕ)) (x : List ℕ) → distinct ((l ++ x ∷ []) ++ x ∷ []) ≡ distinct (l ++ x ∷ [])
twice l x =
    grows_by_one (l ++ x ∷ []) x
    ∙ ap (λ (b : Bool). cond b (distinct (l ++ x ∷ [])) (distinct (l ++ x ∷ []) ++ x ∷ [])) (last_had l x)

-- rows of at most 15 bytes
pub short_with : (l : List (List ℕ)) (x : List ℕ) → length x ≤ 15 → length (run_together (distinct l)) ≤ 15 * length (distinct l) → length (run_together (distinct (l ++ x ∷ []))) ≤ 15 * length (distinct (l ++ x ∷ []))
short_with l x h k = subst (λ (d : List (List ℕ)). length (run_together d) ≤ 15 * length d) (sym (grows_by_one l x)) (on (has (distinct l) x))
  where
    on : (b : Bool) → length (run_together (cond b (distinct l) (distinct l ++ x ∷ []))) ≤ 15 * length (cond b (distinct l) (distinct l ++ x ∷ []))
    on true = k
    on false =
        omega (arith, k, h, ap length (together (distinct l) (x ∷ [])), length-append (run_together (distinct l)) (x ++ []), length-append x [], length-append (distinct l) (x ∷ []))

-- of different rows one at most is empty, so they are one more than their bytes at most
or_second : (a b : Bool) → a || b ≡ false → b ≡ false
or_second true b e = absurd (let z : ◌≡◌ {A = ℕ} 0 1 = cc in omega arith)
or_second false b e = e

none_empty : (l : List (List ℕ)) → AllDifferent l → has l [] ≡ false → length l ≤ length (run_together l)
none_empty [] d h = omega arith
none_empty ([] ∷ l) d h = absurd (let z : ◌≡◌ {A = ℕ} 0 1 = cc in omega arith)
none_empty ((y ∷ ys) ∷ l) d h = let k = none_empty l d.1 h in omega (arith, k, length-append ys (run_together l))

pub few_different : (l : List (List ℕ)) → AllDifferent l → length l ≤ suc (length (run_together l))
few_different [] d = omega arith
few_different ([] ∷ l) d = let k = none_empty l d.1 d.0 in omega (arith, k)
few_different ((y ∷ ys) ∷ l) d = let k = few_different l d.1 in omega (arith, k, length-append ys (run_together l))

-- where bytes and ends are as many as there can be, they are too many for the sheet
pub too_long : (m bytes ends : List ℕ) (l : List (List ℕ)) (n : ℕ) → length bytes ≡ n → length ends ≡ suc n → TooManyFor (distinct l) bytes ends → length (run_together (distinct l)) ≤ n → ⊥
too_long m bytes ends l n b e (inl h) k = omega (arith, h, k, b)
too_long m bytes ends l n b e (inr h) k = omega (arith, h, k, e, few_different (distinct l) (added_different [] l))

pub too_many_tags : (bytes ends : List ℕ) (l : List (List ℕ)) → length bytes ≡ 960 → length ends ≡ 64 → TooManyFor (distinct l) bytes ends → length (run_together (distinct l)) ≤ 15 * length (distinct l) → length (distinct l) ≤ 64 → ⊥
too_many_tags bytes ends l b e (inl h) s k = omega (arith, h, s, k, b)
too_many_tags bytes ends l b e (inr h) s k = omega (arith, h, k, e)
