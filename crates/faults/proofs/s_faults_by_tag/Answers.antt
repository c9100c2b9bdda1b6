use native.Mathlib.Omega.{arith}
use Rattle.expressions.specs.Grammar.{content_of, tags_of, tag}
use Rattle.expressions.specs.Decide.{count}
use Rattle.expressions.specs.Listed.{is_many}
use Rattle.faults.proofs.Laws.{loop_on, loop_done, entry_put, tag_told}
use Rattle.faults.proofs.s_faults_by_tag.Goals as goal

pub loop-t-preserved : goal.loop-t-preserved
loop-t-preserved c =
    let v = c.loop-t in
    let put = c.put_entry-n in
    loop_on _ 4 _ (omega arith) v.invariant
    (entry_put 9 c.args.q c.args.p v.t _ (λ g. is_many (count (tags_of g) (content_of g c.args.q) c.args.p (tag v.t)))
    (λ g i. tag_told c.requires.sums_are g i (omega (arith, c.requires.laid_out.few_tags))) (put.ensures.put_as, put.ensures.upper_bound)) put.auto.list

pub returns : goal.returns
returns c = loop_done _ 4 _ 256 (omega arith) (omega arith) c.loop-t.invariant
