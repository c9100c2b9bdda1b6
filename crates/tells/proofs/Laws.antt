-- Laws of what a test tells: one answer, of equals, of two at once, by the answer or by its contrary, and the tests of numbers.
-- Assumes nothing.
use mathlib.Core.Path.{◌≡◌, refl, sym}
use mathlib.Core.Bool.{Bool, true, false, not, ◌&&◌, true≢false}
use Prim.Native.Nat.{ℕ, ◌≤◌, ◌<◌}
use native.Mathlib.Omega.{arith}
use lib.Dec.{leb, ltb, eqb}
use borrow.Author.Tests.{leb-true, leb-false, ltb-true, ltb-false, eqb-true, eqb-false}
use Rattle.tells.specs.Tells.{Tells, holds, fails}

-- a thing holds or does not: a test tells one thing
pub one_telling : {P : Type 0} {a b : Bool} → Tells P a → Tells P b → a ≡ b
one_telling (holds p) (holds q) = refl
one_telling (holds p) (fails q) = absurd (q p)
one_telling (fails p) (holds q) = absurd (p q)
one_telling (fails p) (fails q) = refl

-- what a test tells of a thing, it tells of its equals
pub as_told : {P Q : Type 0} {b : Bool} → (P → Q) → (Q → P) → Tells P b → Tells Q b
as_told f g (holds p) = holds (f p)
as_told f g (fails n) = fails (λ q. n (g q))

pub both_told : {P Q : Type 0} {a b : Bool} → Tells P a → Tells Q b → Tells (P × Q) (a && b)
both_told (holds p) (holds q) = holds (p, q)
both_told (holds p) (fails n) = fails (λ z. n z.1)
both_told (fails n) t = fails (λ z. n z.0)

-- what a test told, by its answer
pub told : {P : Type 0} {b : Bool} → Tells P b → b ≡ true → P
told (holds p) e = p
told (fails n) e = absurd (true≢false (sym e))

pub not_told : {P : Type 0} {b : Bool} → Tells P b → b ≡ false → P → ⊥
not_told (fails n) e p = n p
not_told (holds q) e p = true≢false e

-- the tests of numbers
pub eqb_tells : (m n : ℕ) → Tells (m ≡ n) (eqb m n)
eqb_tells m n = go (eqb m n) refl where
  go : (b : Bool) → eqb m n ≡ b → Tells (m ≡ n) b
  go true e = holds (eqb-true m n e)
  go false e = fails (eqb-false m n e)

pub leb_tells : (m n : ℕ) → Tells (m ≤ n) (leb m n)
leb_tells m n = go (leb m n) refl where
  go : (b : Bool) → leb m n ≡ b → Tells (m ≤ n) b
  go true e = holds (leb-true m n e)
  go false e = fails (λ h. let k = leb-false m n e in omega arith)

pub ltb_tells : (m n : ℕ) → Tells (m < n) (ltb m n)
ltb_tells m n = go (ltb m n) refl where
  go : (b : Bool) → ltb m n ≡ b → Tells (m < n) b
  go true e = holds (ltb-true m n e)
  go false e = fails (λ h. let k = ltb-false m n e in omega arith)

pub beside : {A P : Type 0} {r : Bool} → A → Tells P r → Tells (A × P) r
beside a (holds p) = holds (a, p)
beside a (fails n) = fails (λ w. n w.1)

-- a test by a Bool tells what its two values say
pub by_answer : {P : Type 0} (b : Bool) → (b ≡ true → P) → (b ≡ false → P → ⊥) → Tells P b
by_answer true f g = holds (f refl)
by_answer false f g = fails (g refl)

-- what a test told, where its answer was looked at by its contrary
pub held : {P : Type 0} {b : Bool} → Tells P b → not b ≡ false → P
held (holds p) e = p
held (fails f) e = absurd (true≢false e)

pub failed : {P : Type 0} {b : Bool} → Tells P b → not b ≡ true → P → ⊥
failed (holds p) e = absurd (true≢false (sym e))
failed (fails f) e = f

pub bool_tells : (b : Bool) → Tells (b ≡ true) b
bool_tells true = holds refl
bool_tells false = fails (λ e. true≢false (sym e))
