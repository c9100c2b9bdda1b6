use mathlib.Core.Path.{refl, sym, ◌∙◌}
use mathlib.Core.Bool.{true}
use Prim.Native.Nat.{◌-◌}
use native.Mathlib.Omega.{arith}
use borrow.Author.Rules.{rules}
use Rattle.resting.proofs.Laws.{clear_one, clear_all}
use Rattle.resting.proofs.clear.Goals as goal

pub loop-i-preserved : goal.loop-i-preserved
loop-i-preserved c =
    (c.put_byte.auto.memory ∙ c.loop-i.invariant.0, clear_one c.loop-i.memory _ c.loop-i.i c.args.to (omega arith) c.put_byte.ensures ∙ c.loop-i.invariant.1)

pub returns : goal.returns
returns c =
    sym (clear_all c.loop-i.memory c.loop-i.i c.args.to c.loop-i-test.false) ∙ c.loop-i.invariant.1

pub loop-i-init : goal.loop-i-init
loop-i-init c = (refl, refl)

pub shape_of-memory : goal.shape_of-memory
shape_of-memory c = c.loop-i.invariant.0
