use mathlib.Core.Path.{◌≡◌, refl}
use Prim.Native.Nat.{ℕ, zero, suc}
use borrow.Author.Rules.{rules}
use Rattle.calls.specs.Call.{again}
use Rattle.converter.proofs.repeated.Goals as goal

-- By whether the number is 0.
same : (n : ℕ) → (n ≡ 0 → ⊥) → n ≡ again n
same zero h = absurd (h refl)
same (suc n) h = refl

pub returns : goal.returns
returns c = same _ c.if-number-eq0.false
