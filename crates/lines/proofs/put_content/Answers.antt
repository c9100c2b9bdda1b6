use borrow.Author.Rules.{rules}
use native.Mathlib.Omega.{arith}
use mathlib.Core.Path.{sym, ◌∙◌}
use Rattle.lines.proofs.Laws.{no_content, content}
use Rattle.lines.proofs.put_content.Goals as goal

-- No node, or the tree that is its nodes.
pub returns-then-count-eq0 : goal.returns-then-count-eq0
returns-then-count-eq0 c = no_content c.args.s.now c.args.q (record { write = c.args.write; lent = c.args.out.now; at = c.args.at }) (sym c.node_count_of-count.ensures.is ∙ c.if-count-eq0.true)

pub put_inside-e-requires : goal.put_inside-e-requires
put_inside-e-requires c =
    let n = c.node_count_of-count.ensures in
    let run = c.requires.runs_inside.inside c.args.q (omega (arith, c.requires.q_lt_productions.0, c.requires.laid_out.layout_is.productions_is.is)) in
    record { laid_out = c.requires.laid_out; le_left = omega (arith, c.requires.q_lt_productions.1, c.if-count-eq0.false, n.is, n.below, c.first_node_of-first.ensures.is, run, c.requires.laid_out.layout_is.nodes_is.is) }

pub returns : goal.returns
returns c =
    let n = c.node_count_of-count.ensures in
    content c.args.s.now c.args.q (record { write = c.args.write; lent = c.args.out.now; at = c.args.at }) _ _ c.first_node_of-first.ensures.is n.is n.below c.if-count-eq0.false _ _ c.put_inside-e.ensures
