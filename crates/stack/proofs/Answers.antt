-- Any two answers are equal: each call leaves one stack, to the byte.
-- Assumes nothing.
use mathlib.Core.Path.{◌≡◌, refl, sym, ap, ap₂, ◌∙◌}
use mathlib.Core.Bool.{Bool, true, false, cond}
use Rattle.std.specs.Prelude.{Option, None, Some}
use mathlib.Core.List.{List}
use Prim.Native.Nat.{ℕ}
use native.Mathlib.Omega.{arith}
use Rattle.state.specs.declared.Frame.{Frame}
use Rattle.live.specs.declared.Live.{Live}
use Rattle.stack.specs.declared.Stack.{Stack}
use Rattle.stack.specs.Stacked.{StackedAs, put, refused, UnstackedAs, off, as_was}

both_same : {s r : Stack} → s.live ≡ r.live → s.bytes ≡ r.bytes → s ≡ r
both_same p q = ap₂ (λ (h : Live) (b : List ℕ). record { live = h; bytes = b }) p q

pub one_push : {s : Stack} {f : Frame} {r q : Option Stack} → StackedAs s f r → StackedAs s f q → r ≡ q
one_push (put _ h a p) (put _ k b t) = a ∙ ap Some (both_same (p.is ∙ sym t.is) (p.bytes ∙ sym t.bytes)) ∙ sym b
one_push (put _ h a p) (refused k b) = absurd (omega (arith, h, k))
one_push (refused h a) (put _ k b t) = absurd (omega (arith, h, k))
one_push (refused h a) (refused k b) = a ∙ sym b

pub one_push_on : {s : Stack} {f : Frame} (a b : Bool) (r q : Stack) → StackedAs s f (cond a (Some r) None) → (a ≡ false → r ≡ s) → StackedAs s f (cond b (Some q) None) → (b ≡ false → q ≡ s)
    → (a ≡ b) × (r ≡ q)
one_push_on true true r q h e k e' = let same = one_push h k in (refl, cc)
one_push_on true false r q h e k e' = let same = one_push h k in cc
one_push_on false true r q h e k e' = let same = one_push h k in cc
one_push_on false false r q h e k e' = (refl, e refl ∙ sym (e' refl))

pub one_pop : {s r q : Stack} → UnstackedAs s r → UnstackedAs s q → r ≡ q
one_pop (off h p e) (off k t f) = both_same (p.is ∙ sym t.is) (e ∙ sym f)
one_pop (off h p e) (as_was k t) = absurd (omega (arith, h, k))
one_pop (as_was h p) (off k t f) = absurd (omega (arith, h, k))
one_pop (as_was h p) (as_was k t) = p ∙ sym t
