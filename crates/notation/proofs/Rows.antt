-- Rows of bytes: cuts, bytes at places, tests of all; a character has some bytes. Assumes nothing.
use mathlib.Core.Path.{◌≡◌, refl, sym}
use mathlib.Core.Logic.{◌⊎◌, inl, inr}
use mathlib.Core.Bool.{Bool, true}
use mathlib.Core.List.{List, [], ◌∷◌, ◌++◌, head-eq_of_cons-eq, tail-eq_of_cons-eq}
use Prim.Native.Nat.{ℕ, zero, suc, ◌≤◌, ◌<◌}
use native.Mathlib.Omega.{arith}
use lib.ListN.{length, get_or}
use Rattle.text.specs.Chars.{utf8}
use Rattle.text.specs.Names.{All}
use Rattle.text.proofs.Shapes.{Range, range, shape1, shape2, shape3, shape4}

-- two ways to cut a list: one cut lies behind the other
pub splits : (a b c d : List ℕ) → a ++ b ≡ c ++ d → ((e : List ℕ) × (a ≡ c ++ e) × (d ≡ e ++ b)) ⊎ ((e : List ℕ) × (c ≡ a ++ e) × (b ≡ e ++ d))
splits [] b c d h = inr (c, refl, h)
splits (x ∷ a) b [] d h = inl (x ∷ a, refl, sym h)
splits (x ∷ a) b (y ∷ c) d h = on (splits a b c d (tail-eq_of_cons-eq h))
  where
    same : x ≡ y
    same = head-eq_of_cons-eq h

    on : ((e : List ℕ) × (a ≡ c ++ e) × (d ≡ e ++ b)) ⊎ ((e : List ℕ) × (c ≡ a ++ e) × (b ≡ e ++ d))
        → ((e : List ℕ) × (x ∷ a ≡ y ∷ (c ++ e)) × (d ≡ e ++ b)) ⊎ ((e : List ℕ) × (y ∷ c ≡ x ∷ (a ++ e)) × (b ≡ e ++ d))
    on (inl (e, i, j)) = inl (e, cc, j)
    on (inr (e, i, j)) = inr (e, cc, j)

-- a byte at a place of bytes with more behind them
pub get_d_front : (l m : List ℕ) (j : ℕ) → j < length l → get_or (l ++ m) j 0 ≡ get_or l j 0
get_d_front [] m j h = absurd (omega arith)
get_d_front (x ∷ l) m zero h = refl
get_d_front (x ∷ l) m (suc j) h = get_d_front l m j (omega arith)

pub all_snoc : (p : ℕ → Bool) (l : List ℕ) (b : ℕ) → All p l → p b ≡ true → All p (l ++ b ∷ [])
all_snoc p [] b h e = (e, tt)
all_snoc p (x ∷ l) b h e = (h.0, all_snoc p l b h.1 e)

pub utf8_some : (c : ℕ) → 1 ≤ length (utf8 c)
utf8_some c = on (range c)
  where
    on : Range c → 1 ≤ length (utf8 c)
    on (inl h) = rw (shape1 c h) (omega arith)
    on (inr (inl h)) = rw (shape2 c h.0 (omega arith)) (omega arith)
    on (inr (inr (inl h))) = rw (shape3 c h.0 (omega arith)) (omega arith)
    on (inr (inr (inr h))) = rw (shape4 c h) (omega arith)
