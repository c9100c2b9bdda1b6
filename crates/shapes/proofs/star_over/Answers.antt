use mathlib.Core.Path.{sym, ◌∙◌}
use native.Mathlib.Omega.{arith}
use Rattle.shapes.proofs.Walks.{production_there, nodes_there}
use Rattle.shapes.proofs.Stars.{other_count, other_kind, star_told}
use Rattle.shapes.proofs.star_over.Goals as goal

-- Two nodes are a star over what the second is.
-- Assumes nothing.
pub returns-then-node_count_of-ne2 : goal.returns-then-node_count_of-ne2
returns-then-node_count_of-ne2 c =
    other_count c.args.s.now c.args.q (production_there c.args.s.now c.args.l c.requires.laid_out c.args.q c.requires.q_lt_productions) (λ e. c.if-node_count_of-ne2.true (c.node_count_of.ensures.is ∙ e))

pub kind_of-requires : goal.kind_of-requires
kind_of-requires c =
    record { laid_out = c.requires.laid_out; i_lt_nodes = omega (arith, nodes_there c.args.s.now c.args.l c.requires.laid_out c.args.q c.requires.q_lt_productions c.requires.runs_inside, c.first_node_of-i.ensures.is, c.node_count_of.ensures.is, c.if-node_count_of-ne2.false) }

pub returns-then-kind_of-ne1 : goal.returns-then-kind_of-ne1
returns-then-kind_of-ne1 c =
    other_kind c.args.s.now c.args.q (production_there c.args.s.now c.args.l c.requires.laid_out c.args.q c.requires.q_lt_productions) _ c.first_node_of-i.ensures.is
    (λ e. c.if-kind_of-ne1.true (c.kind_of.ensures.is ∙ e))

pub argument_of-requires : goal.argument_of-requires
argument_of-requires c =
    record { laid_out = c.requires.laid_out; i_lt_nodes = omega (arith, nodes_there c.args.s.now c.args.l c.requires.laid_out c.args.q c.requires.q_lt_productions c.requires.runs_inside, c.first_node_of-i.ensures.is, c.node_count_of.ensures.is, c.if-node_count_of-ne2.false) }

pub returns : goal.returns
returns c =
    star_told c.args.s.now c.args.q (production_there c.args.s.now c.args.l c.requires.laid_out c.args.q c.requires.q_lt_productions) _ _ c.first_node_of-i.ensures.is
    (sym c.node_count_of.ensures.is ∙ c.if-node_count_of-ne2.false) (sym c.kind_of.ensures.is ∙ c.if-kind_of-ne1.false)
    c.argument_of.ensures.is c.argument_of.ensures.below
