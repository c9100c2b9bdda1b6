use Rattle.std.proofs.Common.{rules}
use Rattle.losses.proofs.WalkLaws.{walks_none, walks_one, walks_all}
use Rattle.losses.proofs.rereading.through.Goals as goal

pub loop-b-init : goal.loop-b-init
loop-b-init c = walks_none _

pub loop-b-preserved : goal.loop-b-preserved
loop-b-preserved c = walks_one _ _ _ _ c.loop-b.b-index (search rules) c.loop-b.invariant c.past-w.ensures

pub returns : goal.returns
returns c = walks_all _ _ _ c.loop-b.b-index c.loop-b-test.false c.loop-b.invariant
