use native.Mathlib.Omega.{arith}
use native.Mathlib.Numerals.{add-one}
use borrow.Author.Count.{below_none, below_more}
use borrow.Author.Rules.{rules}
use Rattle.tells.proofs.Laws.{both_told, eqb_tells, told, not_told}
use Rattle.words.proofs.Laws.{run_inside, found, missed, counted, test_adds}
use Rattle.words.proofs.node_of_atom.Goals as goal

pub loop-k-init : goal.loop-k-init
loop-k-init c = (search rules, search rules, below_none _)

pub kind_of-requires : goal.kind_of-requires
kind_of-requires c =
    let i = run_inside c.requires.laid_out c.requires.runs_inside c.requires.q_lt_productions in
    record { laid_out = c.requires.laid_out; i_lt_nodes = omega (arith, i, c.first_node_of-first.ensures.is, c.node_count_of-nodes.ensures.is) }

pub returns-then-here-before : goal.returns-then-here-before
returns-then-here-before c =
    let e = told (both_told (eqb_tells _ _) (eqb_tells _ _)) c.if-here-before.true in
    found c.args.s.now c.args.q c.args.p c.loop-k.k c.first_node_of-first.ensures.is c.kind_of.ensures.is (test_adds _ _ c.from-here.ensures) c.loop-k.invariant.1
    (omega (arith, c.loop-k-test.true, c.node_count_of-nodes.ensures.is)) e.0 e.1

pub loop-k-preserved : goal.loop-k-preserved
loop-k-preserved c = (
  search rules,
  rw add-one (counted c.args.s.now c.args.q c.args.p c.loop-k.k c.first_node_of-first.ensures.is c.kind_of.ensures.is (test_adds _ _ c.from-here.ensures) c.loop-k.invariant.1),
  below_more _ _ c.loop-k.invariant.2
      (missed c.args.s.now c.args.q c.args.p c.loop-k.k c.first_node_of-first.ensures.is c.kind_of.ensures.is (test_adds _ _ c.from-here.ensures) c.loop-k.invariant.1
      (not_told (both_told (eqb_tells _ _) (eqb_tells _ _)) c.if-here-before.false)),
)

pub returns : goal.returns
returns c = λ k a. c.loop-k.invariant.2 k (omega (arith, a.within, c.node_count_of-nodes.ensures.is, c.loop-k-test.false, c.loop-k.invariant.0)) a
