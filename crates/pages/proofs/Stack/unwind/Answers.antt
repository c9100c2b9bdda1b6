use mathlib.Core.Path.{◌≡◌, subst}
use Rattle.strokes.specs.Strokes.{unwound}
use Rattle.pages.specs.Pages.{stack_at}
use native.Mathlib.Omega.{arith}
use lib.ListN.{length}
use Prim.Native.Nat.{◌≤◌, ◌+◌, ◌-◌}
use Rattle.pages.proofs.Stacks.{unwinding, over_zeros, over_left, at_zeros, at_left, unwinding_on}
use borrow.Author.Rules.{rules}
use Rattle.pages.proofs.Stack.unwind.Goals as goal

pub loop-i-init : goal.loop-i-init
loop-i-init c = unwinding _ _

pub offset_bounds-items-i : goal.offset_bounds-items-i
offset_bounds-items-i c = record { fits = omega (arith, c.loop-i.invariant.at_most, c.requires) }

pub bounds-items-i : goal.bounds-items-i
bounds-items-i c = omega (arith, c.loop-i.invariant.at_most, c.requires, c.loop-i-test.true)

pub returns-then-m-eq0 : goal.returns-then-m-eq0
returns-then-m-eq0 c = let s = c.args.self in let l = c.loop-i in let w : length s.items ≡ 33 = search rules in let g : l.i ≤ length s.items = omega (arith, l.invariant.at_most, c.requires) in let k : l.i ≡ l.i - 1 + 1 = omega (arith, c.loop-i-test.true) in record { fewer = omega (arith, l.invariant.at_most, c.loop-i-test.true); zeros_are = at_zeros s.items s.count l.i l.zeros l.invariant c.loop-i-test.true g c.if-m-eq0.true; left_are = subst (λ j. stack_at s.items j ≡ unwound (stack_at s.items s.count)) k (at_left s.items s.count l.i l.zeros l.invariant c.loop-i-test.true g c.if-m-eq0.true) }

pub overflow_add-zeros : goal.overflow_add-zeros
overflow_add-zeros c = omega (arith, c.loop-i.invariant.counted, c.zeros_of-zeros.ensures.upper_bound, c.requires)

pub loop-i-preserved : goal.loop-i-preserved
loop-i-preserved c = let s = c.args.self in let l = c.loop-i in let w : length s.items ≡ 33 = search rules in let g : l.i ≤ length s.items = omega (arith, l.invariant.at_most, c.requires) in unwinding_on s.items s.count l.i l.zeros l.invariant c.loop-i-test.true g _ c.if-m-eq0.false c.zeros_of-zeros.ensures.value c.zeros_of-zeros.ensures.upper_bound

pub returns : goal.returns
returns c = let s = c.args.self in let l = c.loop-i in let w : length s.items ≡ 33 = search rules in let g : l.i ≤ length s.items = omega (arith, l.invariant.at_most, c.requires) in record { fewer = search rules; zeros_are = over_zeros s.items s.count l.i l.zeros l.invariant (omega (arith, c.loop-i-test.false)); left_are = over_left s.items s.count l.i l.zeros l.invariant (omega (arith, c.loop-i-test.false)) }
