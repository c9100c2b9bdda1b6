use native.Mathlib.Omega.{arith}
use Rattle.faults.proofs.Laws.{loop_on, loop_done}
use Rattle.faults.proofs.t_faults.Goals as goal

pub loop-m-preserved : goal.loop-m-preserved
loop-m-preserved c =
    loop_on 64 256 _ (omega arith) c.loop-m.invariant c.t_faults_of-n.ensures c.t_faults_of-n.auto.list

pub returns : goal.returns
returns c = loop_done 64 256 _ 16384 (omega arith) (omega arith) c.loop-m.invariant
