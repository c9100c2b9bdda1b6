use native.Mathlib.Omega.{arith}
use Rattle.layout.specs.Layout.{node_count}
use Rattle.layout.specs.Records.{first_program_of_node, second_program_of_node}
use Rattle.hoards.proofs.Laws.{each_left, one_less, one_full, none_left}
use Rattle.hoards.proofs.keep_nodes.Goals as goal

pub loop-i-init : goal.loop-i-init
loop-i-init c = each_left c.args.s.now (first_program_of_node c.args.s.now) (second_program_of_node c.args.s.now) (node_count c.args.s.now) c.args.bytes.now c.args.ends.now c.args.count c.requires.has_rows

pub first_program_of_node-first-requires : goal.first_program_of_node-first-requires
first_program_of_node-first-requires c = record { laid_out = c.requires.laid_out; i_lt_nodes = omega arith }

pub second_program_of_node-second-requires : goal.second_program_of_node-second-requires
second_program_of_node-second-requires c = record { laid_out = c.requires.laid_out; i_lt_nodes = omega arith }

pub keep_both-requires : goal.keep_both-requires
keep_both-requires c = record { laid_out = c.requires.laid_out; has_rows = c.loop-i.invariant.rows }

pub returns-in_err-n : goal.returns-in_err-n
returns-in_err-n c =
    let l = c.loop-i in
    one_full c.args.s.now (first_program_of_node c.args.s.now) (second_program_of_node c.args.s.now) (node_count c.args.s.now) c.args.bytes.now c.args.ends.now c.args.count l.i l.n l.bytes l.ends (omega (arith, c.requires.laid_out.layout_is.nodes_is.is)) l.invariant _ _ c.first_program_of_node-first.ensures.is c.second_program_of_node-second.ensures.is _ _ _ c.from_residual.ensures c.in_err-n.ensures

pub loop-i-preserved : goal.loop-i-preserved
loop-i-preserved c =
    let l = c.loop-i in
    one_less c.args.s.now (first_program_of_node c.args.s.now) (second_program_of_node c.args.s.now) (node_count c.args.s.now) c.args.bytes.now c.args.ends.now c.args.count l.i l.n l.bytes l.ends (omega (arith, c.requires.laid_out.layout_is.nodes_is.is)) l.invariant _ _ c.first_program_of_node-first.ensures.is c.second_program_of_node-second.ensures.is _ _ _ c.in_ok-n.ensures

pub shape_of-bytes : goal.shape_of-bytes
shape_of-bytes c = c.loop-i.invariant.as_many_bytes

pub shape_of-ends : goal.shape_of-ends
shape_of-ends c = c.loop-i.invariant.as_many_ends

pub returns : goal.returns
returns c =
    let l = c.loop-i in
    none_left c.args.s.now (first_program_of_node c.args.s.now) (second_program_of_node c.args.s.now) (node_count c.args.s.now) c.args.bytes.now c.args.ends.now c.args.count l.i l.n l.bytes l.ends (omega (arith, c.requires.laid_out.layout_is.nodes_is.is)) l.invariant
