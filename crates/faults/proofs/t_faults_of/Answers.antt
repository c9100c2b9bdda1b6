use native.Mathlib.Omega.{arith}
use lib.Dec.{leb}
use Rattle.expressions.specs.Listed.{alike}
use Rattle.faults.proofs.Laws.{loop_on, loop_done, entry_put, alike_told}
use Rattle.faults.proofs.t_faults_of.Goals as goal

pub loop-t-preserved : goal.loop-t-preserved
loop-t-preserved c =
    let v = c.loop-t in
    let put = c.put_entry-n in
    loop_on _ 4 _ (omega arith) v.invariant
    (entry_put 8 c.args.m v.t 0 _ (λ g. leb 2 (alike g c.args.m v.t)) (alike_told c.requires.all_alike c.requires.m_lt_nonterminals (omega (arith, c.requires.laid_out.few_tags))) (put.ensures.put_as, put.ensures.upper_bound)) put.auto.list

pub returns : goal.returns
returns c = loop_done _ 4 _ 256 (omega arith) (omega arith) c.loop-t.invariant
