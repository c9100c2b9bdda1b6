use Prim.Native.Nat.{◌<◌}
use native.Mathlib.Omega.{arith}
use Rattle.layout.specs.Layout.{production_count}
use Rattle.trees.proofs.Answers.{no_atoms, tree_there, atoms_are, some_atom}
use Rattle.trees.proofs.atoms_of.Goals as goal

-- `atoms_of`: the walk counts the atoms that it passes, from 1 on, whatever the place.
-- Assumes nothing.
pub returns-then-nodes-eq0 : goal.returns-then-nodes-eq0
returns-then-nodes-eq0 c = no_atoms _ _ _ c.node_count_of-nodes.ensures.is c.if-nodes-eq0.true

pub walk_tree-t-requires : goal.walk_tree-t-requires
walk_tree-t-requires c =
    let h : c.args.q < production_count c.args.s.now = omega (arith, c.requires.laid_out.layout_is.productions_is) in
    record { laid_out = c.requires.laid_out; tree_in = tree_there _ _ _ c.node_count_of-nodes.ensures.is c.if-nodes-eq0.false _ c.first_node_of-first.ensures.is c.requires.trees c.requires.runs_inside h }

pub overflow_sub-result : goal.overflow_sub-result
overflow_sub-result c =
    let h : c.args.q < production_count c.args.s.now = omega (arith, c.requires.laid_out.layout_is.productions_is) in
    some_atom _ _ _ c.node_count_of-nodes.ensures.is c.if-nodes-eq0.false _ c.first_node_of-first.ensures.is _ _ c.walk_tree-t.ensures (tree_there _ _ _ c.node_count_of-nodes.ensures.is c.if-nodes-eq0.false _ c.first_node_of-first.ensures.is c.requires.trees c.requires.runs_inside h)

pub returns : goal.returns
returns c =
    let h : c.args.q < production_count c.args.s.now = omega (arith, c.requires.laid_out.layout_is.productions_is) in
    atoms_are _ _ _ c.node_count_of-nodes.ensures.is c.if-nodes-eq0.false _ c.first_node_of-first.ensures.is _ _ c.walk_tree-t.ensures c.requires.trees h
