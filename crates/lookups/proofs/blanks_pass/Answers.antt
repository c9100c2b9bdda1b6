use mathlib.Core.Path.{sym, ◌∙◌}
use Prim.Native.Nat.{◌+◌, ◌<◌}
use native.Mathlib.Omega.{arith}
use borrow.Author.Count.{below_more}
use borrow.Author.Rules.{rules}
use Rattle.layout.specs.Layout.{production_count}
use Rattle.lookups.proofs.Blanks.{blanks_nowhere, blanks_pass_lem, blanks_count}
use Rattle.lookups.proofs.blanks_pass.Goals as goal

pub returns-then-count-eq0 : goal.returns-then-count-eq0
returns-then-count-eq0 c =
    blanks_nowhere c.args.s.now c.args.q (omega (arith, c.requires.laid_out.layout_is.productions_is.is, c.requires.q_lt_productions)) (sym c.node_count_of-count.ensures.is ∙ c.if-count-eq0.true)

pub loop-i-init : goal.loop-i-init
loop-i-init c =
    let p = c.requires.laid_out.layout_is in
    let b : c.args.q < production_count c.args.s.now = omega (arith, p.productions_is.is, c.requires.q_lt_productions) in
    (omega (arith, c.requires.runs_inside.inside c.args.q b, p.nodes_is.is, c.node_count_of-count.ensures.is, c.first_node_of-first.ensures.is), λ k z y. absurd (omega arith))

pub returns-then-kind_of-eq2 : goal.returns-then-kind_of-eq2
returns-then-kind_of-eq2 c =
    blanks_count c.args.s.now c.args.q (omega (arith, c.requires.laid_out.layout_is.productions_is.is, c.requires.q_lt_productions)) _ (c.first_node_of-first.result + c.node_count_of-count.result) c.first_node_of-first.ensures.is (search rules) c.loop-i.i (omega arith) (omega arith) (sym c.kind_of.ensures.is ∙ c.if-kind_of-eq2.true)

pub loop-i-preserved : goal.loop-i-preserved
loop-i-preserved c =
    (search rules, below_more _ _ c.loop-i.invariant.1 (λ y e. c.if-kind_of-eq2.false (c.kind_of.ensures.is ∙ e)))

pub returns : goal.returns
returns c =
    blanks_pass_lem c.args.s.now c.args.q (omega (arith, c.requires.laid_out.layout_is.productions_is.is, c.requires.q_lt_productions)) _ (c.first_node_of-first.result + c.node_count_of-count.result) c.first_node_of-first.ensures.is (search rules) c.loop-i.i (omega arith) (λ z. c.if-count-eq0.false (c.node_count_of-count.ensures.is ∙ z)) c.loop-i.invariant.1
