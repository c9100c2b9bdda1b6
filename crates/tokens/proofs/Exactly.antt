-- Document 01's numbers are given exactly when it says so: the answer has the number, and any other answer to the same front has another.
-- Assumes nothing.
use mathlib.Core.Path.{◌≡◌, refl, ap, subst}
use mathlib.Core.Bool.{Bool, true, false}
use mathlib.Core.List.{List}
use mathlib.Core.Option.{Option, none, some}
use mathlib.Core.Logic.{◌↔◌}
use Prim.Native.Nat.{ℕ, zero, suc}
use native.Mathlib.Omega.{arith}
use Rattle.tokens.specs.declared.Answer.{Answer}
use Rattle.tokens.specs.declared.Answer.TheVariants.{Token, Waiting, Begun, Bad, Long}
use Rattle.tokens.specs.Tokens.{Means}
use Rattle.tokens.specs.Numbers.{number_of}
use Rattle.tokens.proofs.Theory.{one_answer}

-- the number, 0 for a token
plainly : Option ℕ → ℕ
plainly none = 0
plainly (some n) = n

bad_only : (more : Bool) (left : ℕ) (a : Answer) → number_of more left a ≡ some 20 → a ≡ Bad
unfolding plainly
bad_only more left (Token e n) p = absurd (omega (arith, ap plainly p))
bad_only true left (Waiting e n) p = absurd (omega (arith, ap plainly p))
bad_only false left (Waiting e n) p = absurd (omega (arith, ap plainly p))
bad_only true left Begun p = absurd (omega (arith, ap plainly p))
bad_only false zero Begun p = absurd (omega (arith, ap plainly p))
bad_only false (suc n) Begun p = absurd (omega (arith, ap plainly p))
bad_only more left Bad p = refl
bad_only more left Long p = absurd (omega (arith, ap plainly p))

long_only : (more : Bool) (left : ℕ) (a : Answer) → number_of more left a ≡ some 21 → a ≡ Long
unfolding plainly
long_only more left (Token e n) p = absurd (omega (arith, ap plainly p))
long_only true left (Waiting e n) p = absurd (omega (arith, ap plainly p))
long_only false left (Waiting e n) p = absurd (omega (arith, ap plainly p))
long_only true left Begun p = absurd (omega (arith, ap plainly p))
long_only false zero Begun p = absurd (omega (arith, ap plainly p))
long_only false (suc n) Begun p = absurd (omega (arith, ap plainly p))
long_only more left Bad p = absurd (omega (arith, ap plainly p))
long_only more left Long p = refl

module _ (more : Bool) (left : ℕ) (f : List ℕ) (at : ℕ) (a : Answer) (m : Means f at a) where
  -- 20 exactly when the front starts with no token and begins none of any length
  pub twenty : (number_of more left a ≡ some 20) ↔ Means f at Bad
  twenty = ((λ p. subst (λ (r : Answer). Means f at r) (bad_only more left a p) m), (λ b. ap (number_of more left) (one_answer f at a Bad m b)))

  -- 21 exactly when it begins only tokens over 32 bytes
  pub twenty_one : (number_of more left a ≡ some 21) ↔ Means f at Long
  twenty_one = ((λ p. subst (λ (r : Answer). Means f at r) (long_only more left a p) m), (λ b. ap (number_of more left) (one_answer f at a Long m b)))
