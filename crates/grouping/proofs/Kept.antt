-- What regrouping keeps, by one induction: whatever holds of one regrouped concatenation, and of one regrouped union where those are regrouped too, goes
-- both ways, from one to the next, and into every surroundings.
-- Assumes nothing.
use mathlib.Core.Path.{◌≡◌, refl}
use Rattle.expressions.specs.Expr.{Exp, cat, alt, star}
use Rattle.grouping.specs.Regrouped.{Which, concatenations_and_unions, RegroupedOnce, concatenation, union, left_of_cat, right_of_cat, left_of_alt, right_of_alt, under_star, Regrouped, as_it_is, step, back, then}

pub record Keeps (w : Which) (R : Exp → Exp → Type 0) : Type 0 where
  pub still : (e : Exp) → R e e
  pub turned : (e e' : Exp) → R e e' → R e' e
  pub joined : (e e' e'' : Exp) → R e e' → R e' e'' → R e e''
  pub in_cat : (l l' r r' : Exp) → R l l' → R r r' → R (cat l r) (cat l' r')
  pub in_alt : (l l' r r' : Exp) → R l l' → R r r' → R (alt l r) (alt l' r')
  pub in_star : (e e' : Exp) → R e e' → R (star e) (star e')
  pub of_cat : (a b c : Exp) → R (cat (cat a b) c) (cat a (cat b c))
  pub of_alt : w ≡ concatenations_and_unions → (a b c : Exp) → R (alt (alt a b) c) (alt a (alt b c))

module _ (R : Exp → Exp → Type 0) where
  kept_by_step : (w : Which) → Keeps w R → (e e' : Exp) → RegroupedOnce w e e' → R e e'
  kept_by_step w k e e' (concatenation a b c) = k.of_cat a b c
  kept_by_step w k e e' (union a b c) = k.of_alt refl a b c
  kept_by_step w k e e' (left_of_cat {l = l} {l' = l'} r s) = k.in_cat l l' r r (kept_by_step w k l l' s) (k.still r)
  kept_by_step w k e e' (right_of_cat l {r = r} {r' = r'} s) = k.in_cat l l r r' (k.still l) (kept_by_step w k r r' s)
  kept_by_step w k e e' (left_of_alt {l = l} {l' = l'} r s) = k.in_alt l l' r r (kept_by_step w k l l' s) (k.still r)
  kept_by_step w k e e' (right_of_alt l {r = r} {r' = r'} s) = k.in_alt l l r r' (k.still l) (kept_by_step w k r r' s)
  kept_by_step w k e e' (under_star {e = b} {e' = b'} s) = k.in_star b b' (kept_by_step w k b b' s)

  pub kept : (w : Which) → Keeps w R → (e e' : Exp) → Regrouped w e e' → R e e'
  kept w k e e' as_it_is = k.still e
  kept w k e e' (step s) = kept_by_step w k e e' s
  kept w k e e' (back r) = k.turned e' e (kept w k e' e r)
  kept w k e e' (then {e' = m} r r') = k.joined e m e' (kept w k e m r) (kept w k m e' r')
