-- Laws of writing into lent memory. Writing goes on where it stopped (put-append); so a loop is stated by what is left to write, and
-- no side condition on room stands in the way: only put_all, for a public promise, asks that it fits.
use mathlib.Core.Path.{◌≡◌, refl, sym, ◌∙◌}
use mathlib.Core.List.{List, [], ◌∷◌, ◌++◌}
use mathlib.Core.Bool.{Bool, true, false}
use Prim.Native.Nat.{ℕ, suc, ◌+◌, ◌≤◌, ◌<◌}
use native.Mathlib.Nat.{add-zero}
use native.Mathlib.Omega.{arith}
use native.Mathlib.Numerals.{add-one}
use lib.ListN.{length, take, drop, get_or, set}
use lib.Seq.{sets, length-sets, sets-eq, drop-cons}
use Rattle.lent.specs.Put.{put, PutAs}

sets_append : (d : List ℕ) (at : ℕ) (xs ys : List ℕ) → sets (sets d at xs) (at + length xs) ys ≡ sets d at (xs ++ ys)
sets_append d at [] ys = rw add-zero
sets_append d at (x ∷ xs) ys = let e : at + suc (length xs) ≡ suc at + length xs = omega arith in rw e (sets_append (set d at x) (suc at) xs ys)

-- writing goes on where it stopped
pub put_append : (w : Bool) (d : List ℕ) (at : ℕ) (xs ys : List ℕ) → put w (put w d at xs) (at + length xs) ys ≡ put w d at (xs ++ ys)
unfolding put
put_append true d at xs ys = sets_append d at xs ys
put_append false d at xs ys = refl

pub put_none : (w : Bool) (d : List ℕ) (at : ℕ) → put w d at [] ≡ d
unfolding put
put_none true d at = refl
put_none false d at = refl

pub nothing_put : (w : Bool) (d : List ℕ) (at : ℕ) → PutAs w d at [] d at
nothing_put w d at = record { next = omega arith; left = sym (put_none w d at) }

pub put_length : (w : Bool) (d : List ℕ) (at : ℕ) (xs : List ℕ) → length (put w d at xs) ≡ length d
unfolding put
put_length true d at xs = length-sets d at xs
put_length false d at xs = refl

-- one more byte of what is left of a source
pub put_one : (w : Bool) (d : List ℕ) (at : ℕ) (s : List ℕ) (j : ℕ) → j < length s → put w (put w d at (get_or s j 0 ∷ [])) (at + 1) (drop (j + 1) s) ≡ put w d at (drop j s)
put_one w d at s j h = put_append w d at (get_or s j 0 ∷ []) (drop (j + 1) s) ∙ rw (add-one, drop-cons s j 0)

pub put_dry : (w : Bool) (d : List ℕ) (at : ℕ) (xs : List ℕ) → w ≡ false → put w d at xs ≡ d
unfolding put
put_dry w d at xs e = rw e

-- where it fits: the bytes before as lent, the new ones, the bytes past them as lent
pub put_all : (d : List ℕ) (at : ℕ) (xs : List ℕ) → at + length xs ≤ length d → put true d at xs ≡ take at d ++ xs ++ drop (at + length xs) d
unfolding put
put_all d at xs h = sets-eq xs d at h
