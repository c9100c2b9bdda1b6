use Prim.Native.Nat.{◌+◌}
use native.Mathlib.Omega.{arith}
use borrow.Author.Count.{below_more}
use borrow.Author.Rules.{rules}
use Rattle.shapes.proofs.Walks.{production_there, nodes_there}
use Rattle.shapes.proofs.Naming.{none_names, one_names, tests_true, tests_false}
use Rattle.shapes.proofs.names.Goals as goal

pub loop-i-init : goal.loop-i-init
loop-i-init c =
    (omega (arith, nodes_there c.args.s.now c.args.l c.requires.laid_out c.args.q c.requires.q_lt_productions c.requires.runs_inside, c.node_count_of.ensures.is, c.first_node_of-first.ensures.is), λ k z y. absurd (omega arith))

pub returns-then-kind-n : goal.returns-then-kind-n
returns-then-kind-n c =
    one_names c.args.s.now c.args.n c.args.q (production_there c.args.s.now c.args.l c.requires.laid_out c.args.q c.requires.q_lt_productions) _ (c.first_node_of-first.result + c.node_count_of.result) c.first_node_of-first.ensures.is (omega (arith, c.node_count_of.ensures.is))
    c.loop-i.i (omega arith) (omega arith)
    (tests_true c.args.s.now c.args.n c.loop-i.i _ _ c.kind_of-kind.ensures.is c.argument_of-argument.ensures.is c.if-kind-n.true)

pub loop-i-preserved : goal.loop-i-preserved
loop-i-preserved c = (
  search rules,
  below_more _ _ c.loop-i.invariant.1 (λ y e. tests_false c.args.s.now c.args.n c.loop-i.i _ _ c.kind_of-kind.ensures.is c.argument_of-argument.ensures.is c.if-kind-n.false e),
)

pub returns : goal.returns
returns c =
    none_names c.args.s.now c.args.n c.args.q (production_there c.args.s.now c.args.l c.requires.laid_out c.args.q c.requires.q_lt_productions) _ (c.first_node_of-first.result + c.node_count_of.result) c.first_node_of-first.ensures.is (omega (arith, c.node_count_of.ensures.is))
    c.loop-i.i (omega arith) c.loop-i.invariant.1
