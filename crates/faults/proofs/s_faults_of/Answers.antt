use mathlib.Core.Path.{ap}
use Prim.Native.Nat.{ℕ}
use native.Mathlib.Omega.{arith}
use Rattle.expressions.specs.Grammar.{tags_of}
use Rattle.expressions.specs.Listed.{gather, s_faults_at}
use Rattle.layout.specs.Layout.{tag_count}
use Rattle.sheet.proofs.DefectLaws.{runs_inside}
use Rattle.expressions.specs.Grammar.{content_of}
use Rattle.faults.proofs.Laws.{loop_begun, loop_on, loop_done, there, places_in}
use Rattle.faults.proofs.s_faults_of.Goals as goal

pub atoms_of-atoms-requires-clause-runs_inside : goal.atoms_of-atoms-requires-clause-runs_inside
atoms_of-atoms-requires-clause-runs_inside c = runs_inside _ c.requires.well_formed.productions

pub loop-p-init : goal.loop-p-init
loop-p-init c =
    let q = there c.requires.laid_out c.requires.q_lt_productions in
    let few = (c.requires.well_formed.productions.each c.args.q q).few_nodes in (
      omega (arith, c.atoms_of-atoms.ensures.few, few),
      loop_begun _ 264 (λ g i. ap (λ (k : ℕ). gather 0 k (s_faults_at (tag_count c.args.s.now) (tags_of g) (content_of g c.args.q) c.args.q)) (places_in q c.atoms_of-atoms.ensures g i)),
    )

pub loop-p-preserved : goal.loop-p-preserved
loop-p-preserved c =
    let v = c.loop-p.invariant in
    (v.0, loop_on _ 264 _ (omega arith) v.1 c.s_faults_at-n.ensures c.s_faults_at-n.auto.list)

pub returns : goal.returns
returns c = loop_done _ 264 _ 8712 (omega arith) (omega arith) c.loop-p.invariant.1
