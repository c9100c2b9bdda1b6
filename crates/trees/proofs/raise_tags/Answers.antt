use native.Mathlib.Omega.{arith}
use Rattle.trees.proofs.Alikes.{none_raised, one_raised, all_raised}
use Rattle.trees.proofs.raise_tags.Goals as goal

pub loop-t-init : goal.loop-t-init
loop-t-init c = none_raised _ _ _ _

pub loop-t-preserved : goal.loop-t-preserved
loop-t-preserved c =
    one_raised _ _ _ _ _ _ _ c.loop-t.invariant (omega arith) c.raise.ensures

pub returns : goal.returns
returns c = all_raised _ _ _ _ _ _ (omega arith) c.loop-t.invariant
