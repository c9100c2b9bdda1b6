use mathlib.Core.Path.{◌≡◌, subst}
use Rattle.strokes.specs.Strokes.{skipped}
use Rattle.pages.specs.Pages.{stack_at}
use native.Mathlib.Omega.{arith}
use lib.ListN.{length}
use Prim.Native.Nat.{◌≤◌, ◌+◌, ◌-◌}
use Rattle.pages.proofs.Stacks.{skipping, past_zeros, past_left, if_zeros, if_left, skipping_on}
use borrow.Author.Rules.{rules}
use Rattle.pages.proofs.Stack.skip.Goals as goal

pub loop-i-init : goal.loop-i-init
loop-i-init c = skipping _ _

pub offset_bounds-items-i : goal.offset_bounds-items-i
offset_bounds-items-i c = record { fits = omega (arith, c.loop-i.invariant.at_most, c.requires) }

pub bounds-items-i : goal.bounds-items-i
bounds-items-i c = omega (arith, c.loop-i.invariant.at_most, c.requires, c.loop-i-test.true)

pub returns-then-m-ne1 : goal.returns-then-m-ne1
returns-then-m-ne1 c = let s = c.args.self in let l = c.loop-i in let w : length s.items ≡ 33 = search rules in let g : l.i ≤ length s.items = omega (arith, l.invariant.at_most, c.requires) in let k : l.i ≡ l.i - 1 + 1 = omega (arith, c.loop-i-test.true) in record { fewer = omega (arith, l.invariant.at_most, c.loop-i-test.true); zeros_are = if_zeros s.items s.count l.i l.zeros l.invariant c.loop-i-test.true g c.if-m-ne1.true; left_are = subst (λ j. stack_at s.items j ≡ skipped (stack_at s.items s.count)) k (if_left s.items s.count l.i l.zeros l.invariant c.loop-i-test.true g c.if-m-ne1.true) }

pub overflow_add-zeros : goal.overflow_add-zeros
overflow_add-zeros c = record { fits = omega (arith, c.loop-i.invariant.counted, c.requires) }

pub loop-i-preserved : goal.loop-i-preserved
loop-i-preserved c = let s = c.args.self in let l = c.loop-i in let w : length s.items ≡ 33 = search rules in let g : l.i ≤ length s.items = omega (arith, l.invariant.at_most, c.requires) in skipping_on s.items s.count l.i l.zeros l.invariant c.loop-i-test.true g c.if-m-ne1.false

pub returns : goal.returns
returns c = let s = c.args.self in let l = c.loop-i in let w : length s.items ≡ 33 = search rules in let g : l.i ≤ length s.items = omega (arith, l.invariant.at_most, c.requires) in record { fewer = search rules; zeros_are = past_zeros s.items s.count l.i l.zeros l.invariant (omega (arith, c.loop-i-test.false)); left_are = past_left s.items s.count l.i l.zeros l.invariant (omega (arith, c.loop-i-test.false)) }
