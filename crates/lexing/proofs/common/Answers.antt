use native.Mathlib.Omega.{arith}
use mathlib.Core.Path.{refl, subst, ◌≡◌}
use lib.ListN.{length, take}
use Rattle.lexing.proofs.Spellings
use Rattle.lexing.proofs.common.Goals as goal

pub loop-i-init : goal.loop-i-init
loop-i-init c = (omega arith, refl)

pub returns-then-i-x : goal.returns-then-i-x
returns-then-i-x c = let l = c.loop-i in record { reached = omega arith; inside = omega arith; same = l.invariant.1; differ = λ i j e. absurd (omega arith) }

pub returns-then-x-i : goal.returns-then-x-i
returns-then-x-i c = let l = c.loop-i in record { reached = omega arith; inside = omega arith; same = l.invariant.1; differ = λ i j e. c.if-x-i.true e }

pub loop-i-preserved : goal.loop-i-preserved
loop-i-preserved c = let a = c.args in let l = c.loop-i in (omega arith, Spellings.same_more a.x.now a.w.now l.i l.invariant.1 (omega arith) (omega arith) c.if-x-i.false)

pub returns : goal.returns
returns c = let l = c.loop-i in let e : l.i ≡ length c.args.w.now = omega arith in record { reached = omega arith; inside = omega arith; same = subst (λ n. take n c.args.x.now ≡ take n c.args.w.now) e l.invariant.1; differ = λ i j e. absurd (omega arith) }
