use mathlib.Core.Path.{refl}
use mathlib.Core.Bool.{true, false}
use Rattle.acts.proofs.Fields.{own_found, node_found, none_found, node_inside}
use Rattle.acts.proofs.field_of.Goals as goal

-- The production's own field, or its node's, or none past its last node.
pub returns-then-again : goal.returns-then-again
returns-then-again c = own_found c.args.s.now c.args.l c.requires.laid_out c.args.q c.requires.q_lt_productions c.args.again true c.if-again.true c.args.i c.if-i-eq0.true _ c.second_program_of.ensures.is

pub returns-then-i-eq0 : goal.returns-then-i-eq0
returns-then-i-eq0 c = own_found c.args.s.now c.args.l c.requires.laid_out c.args.q c.requires.q_lt_productions c.args.again false c.if-again.false c.args.i c.if-i-eq0.true _ c.first_program_of.ensures.is

pub returns-then-node_count_of-i : goal.returns-then-node_count_of-i
returns-then-node_count_of-i c = none_found c.args.s.now c.args.l c.requires.laid_out c.args.q c.requires.q_lt_productions c.args.again c.args.i c.if-i-eq0.false (rw c.node_count_of.ensures.is at c.if-node_count_of-i.true)

pub second_program_of_node-requires : goal.second_program_of_node-requires
second_program_of_node-requires c =
    record { laid_out = c.requires.laid_out; i_lt_nodes = node_inside c.args.s.now c.args.l c.requires.laid_out c.args.q c.requires.q_lt_productions c.requires.well_formed c.args.i c.if-i-eq0.false _ c.node_count_of.ensures.is c.if-node_count_of-i.false _ c.first_node_of.ensures.is }

pub returns-then-again-2 : goal.returns-then-again-2
returns-then-again-2 c =
    let n = c.node_count_of.ensures.is in
    node_found c.args.s.now c.args.l c.requires.laid_out c.args.q c.requires.q_lt_productions c.args.again true c.if-again-2.true c.args.i c.if-i-eq0.false (rw n at c.if-node_count_of-i.false) _ (rw c.first_node_of.ensures.is refl) _ c.second_program_of_node.ensures.is

pub first_program_of_node-requires : goal.first_program_of_node-requires
first_program_of_node-requires c =
    record { laid_out = c.requires.laid_out; i_lt_nodes = node_inside c.args.s.now c.args.l c.requires.laid_out c.args.q c.requires.q_lt_productions c.requires.well_formed c.args.i c.if-i-eq0.false _ c.node_count_of.ensures.is c.if-node_count_of-i.false _ c.first_node_of.ensures.is }

pub returns : goal.returns
returns c =
    let n = c.node_count_of.ensures.is in
    node_found c.args.s.now c.args.l c.requires.laid_out c.args.q c.requires.q_lt_productions c.args.again false c.if-again-2.false c.args.i c.if-i-eq0.false (rw n at c.if-node_count_of-i.false) _ (rw c.first_node_of.ensures.is refl) _ c.first_program_of_node.ensures.is
