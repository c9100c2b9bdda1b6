use borrow.Author.Rules.{rules}
use mathlib.Core.Path.{refl}
use native.Mathlib.Omega.{arith}
use Rattle.ways.proofs.Passes.{all_left, none_left, one_less}
use Rattle.ways.proofs.pass_tree.Goals as goal

pub loop-w-init : goal.loop-w-init
loop-w-init c = all_left c.requires.tree_in _ refl refl refl

pub kind_of-kind-requires : goal.kind_of-kind-requires
kind_of-kind-requires c = search rules

pub one_on-w-requires : goal.one_on-w-requires
one_on-w-requires c = search rules

pub loop-w-smaller : goal.loop-w-smaller
loop-w-smaller c = search rules

pub loop-w-preserved : goal.loop-w-preserved
loop-w-preserved c = one_less c.loop-w.invariant c.loop-w-test.true _ c.kind_of-kind.ensures.is _ c.one_on-w.ensures

pub returns : goal.returns
returns c = none_left c.loop-w.invariant (omega (arith, c.loop-w-test.false))
