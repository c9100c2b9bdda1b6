use Prim.Native.Nat.{◌<◌}
use native.Mathlib.Omega.{arith}
use Rattle.layout.specs.Layout.{production_count}
use Rattle.trees.proofs.Answers.{tree_there}
use Rattle.trees.proofs.Spreads.{none_counted_from, tree_counted_from}
use Rattle.trees.proofs.count_from.Goals as goal

-- `count_from`: place 0 leads to the start of the production's tree, any other place is in it; a production with no nodes has one bracket string at
-- most, from place 0 to the end.
-- Assumes nothing.
pub returns-then-nodes-eq0 : goal.returns-then-nodes-eq0
returns-then-nodes-eq0 c =
    let h : c.args.q < production_count c.args.s.now = omega (arith, c.requires.laid_out.layout_is.productions_is) in
    none_counted_from _ _ _ _ h c.node_count_of-nodes.ensures.is _ _ c.bit-start.ensures c.if-nodes-eq0.true

pub spread-onward-requires : goal.spread-onward-requires
spread-onward-requires c =
    let h : c.args.q < production_count c.args.s.now = omega (arith, c.requires.laid_out.layout_is.productions_is) in
    record { laid_out = c.requires.laid_out; trees = c.requires.trees; all_alike = c.requires.all_alike; sums_len = c.requires.sums_len; tree_in = tree_there _ _ _ c.node_count_of-nodes.ensures.is c.if-nodes-eq0.false _ c.first_node_of-first.ensures.is c.requires.trees c.requires.runs_inside h }

pub returns : goal.returns
returns c =
    let h : c.args.q < production_count c.args.s.now = omega (arith, c.requires.laid_out.layout_is.productions_is) in
    tree_counted_from _ _ _ _ h c.node_count_of-nodes.ensures.is _ c.bit-start.result c.bit-start.ensures c.if-nodes-eq0.false _ c.first_node_of-first.ensures.is _ _ c.spread-onward.ensures
