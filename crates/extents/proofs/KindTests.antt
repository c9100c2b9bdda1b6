-- What the tests of a kind tell. Assumes nothing.
use mathlib.Core.Path.{◌≡◌, refl, sym, subst}
use mathlib.Core.Bool.{Bool, true, false, not, ◌||◌, ◌&&◌}
use Prim.Native.Nat.{ℕ}
use native.Mathlib.Omega.{arith}
use lib.Dec.{eqb}
use borrow.Author.Tests.{ne_eqb}
use Rattle.programs.specs.Limits.{is_second}
use Rattle.programs.specs.Parsed.{which_visit}
use Rattle.outlines.specs.Kinds.{is_target, is_operand, is_plain}

pub target_plain : (b : Bool) (k : ℕ) → k ≡ 2 → true ≡ is_target (which_visit b) k
target_plain b k e = subst (λ x. true ≡ is_target (which_visit b) x) (sym e) refl

pub target_left : (b : Bool) (k : ℕ) → k ≡ 3 → not b ≡ is_target (which_visit b) k
target_left true k e = subst (λ x. false ≡ is_target (which_visit true) x) (sym e) refl
target_left false k e = subst (λ x. true ≡ is_target (which_visit false) x) (sym e) refl

pub target_right : (b : Bool) (k : ℕ) → k ≡ 4 → b ≡ is_target (which_visit b) k
target_right true k e = subst (λ x. true ≡ is_target (which_visit true) x) (sym e) refl
target_right false k e = subst (λ x. false ≡ is_target (which_visit false) x) (sym e) refl

pub no_target : (b : Bool) (k : ℕ) → (k ≡ 2 → ⊥) → (k ≡ 3 → ⊥) → (k ≡ 4 → ⊥) → false ≡ is_target (which_visit b) k
no_target b k f g h = rw (ne_eqb k 2 f, ne_eqb k 3 g, ne_eqb k 4 h)

pub operand_value : (b : Bool) (k : ℕ) → k ≡ 1 → true ≡ is_operand (which_visit b) k
operand_value b k e = subst (λ x. true ≡ is_operand (which_visit b) x) (sym e) refl

by_target : (a t c : Bool) → t ≡ true → true ≡ (a || (t || c))
by_target true t c e = refl
by_target false true c e = refl
by_target false false c e = absurd (let z : ◌≡◌ {A = ℕ} 0 1 = cc in omega arith)

pub operand_target : (b : Bool) (k : ℕ) → is_target (which_visit b) k ≡ true → true ≡ is_operand (which_visit b) k
operand_target b k e = by_target (eqb k 1) (is_target (which_visit b) k) _ e

pub operand_left : (b : Bool) (k : ℕ) → is_target (which_visit b) k ≡ false → k ≡ 3 → b ≡ is_operand (which_visit b) k
operand_left true k f e = subst (λ x. true ≡ is_operand (which_visit true) x) (sym e) refl
operand_left false k f e = subst (λ x. is_target (which_visit false) x ≡ false → false ≡ is_operand (which_visit false) x) (sym e) (λ z. sym z) f

three : (a t c d : Bool) → a ≡ false → t ≡ false → c ≡ false → false ≡ (a || (t || c && d))
three a t c d e f g = rw (e, f, g)

pub no_operand : (b : Bool) (k : ℕ) → (k ≡ 1 → ⊥) → is_target (which_visit b) k ≡ false → (k ≡ 3 → ⊥) → false ≡ is_operand (which_visit b) k
no_operand b k f g h = three (eqb k 1) (is_target (which_visit b) k) (eqb k 3) (is_second (which_visit b)) (ne_eqb k 1 f) g (ne_eqb k 3 h)

pub plain_reject : (b : Bool) (k : ℕ) → k ≡ 13 → true ≡ is_plain (which_visit b) k
plain_reject b k e = subst (λ x. true ≡ is_plain (which_visit b) x) (sym e) refl

pub plain_echo : (b : Bool) (k : ℕ) → k ≡ 11 → not b ≡ is_plain (which_visit b) k
plain_echo true k e = subst (λ x. false ≡ is_plain (which_visit true) x) (sym e) refl
plain_echo false k e = subst (λ x. true ≡ is_plain (which_visit false) x) (sym e) refl

pub plain_off : (b : Bool) (k : ℕ) → k ≡ 12 → not b ≡ is_plain (which_visit b) k
plain_off true k e = subst (λ x. false ≡ is_plain (which_visit true) x) (sym e) refl
plain_off false k e = subst (λ x. true ≡ is_plain (which_visit false) x) (sym e) refl

pub no_plain : (b : Bool) (k : ℕ) → (k ≡ 13 → ⊥) → (k ≡ 11 → ⊥) → (k ≡ 12 → ⊥) → false ≡ is_plain (which_visit b) k
no_plain b k f g h = rw (ne_eqb k 13 f, ne_eqb k 11 g, ne_eqb k 12 h)
