use mathlib.Core.Path.{refl}
use native.Mathlib.Omega.{arith}
use Rattle.ways.proofs.Spots.{first_tree, passed_by, parts_are}
use Rattle.ways.proofs.parts_of.Goals as goal

-- `parts_of`: passing the first part tells how many nodes and atoms it has; the second part has what is left.
-- Assumes nothing.
pub pass_tree-passed-requires : goal.pass_tree-passed-requires
pass_tree-passed-requires c =
    record { laid_out = c.requires.laid_out; tree_in = first_tree _ _ c.requires.bound c.requires.node_bound c.requires.spot_in (omega (arith, c.requires.laid_out.few_nodes, c.requires.laid_out.layout_is.nodes_is.is)) }

pub overflow_sub-nodes : goal.overflow_sub-nodes
overflow_sub-nodes c =
    let m = passed_by _ _ c.requires.bound c.requires.node_bound c.requires.spot_in _ c.pass_tree-passed.ensures in
    omega (arith, m.past)

pub overflow_sub-second-2 : goal.overflow_sub-second-2
overflow_sub-second-2 c =
    let m = passed_by _ _ c.requires.bound c.requires.node_bound c.requires.spot_in _ c.pass_tree-passed.ensures in
    omega (arith, m.past, m.room)

pub overflow_add-second-2 : goal.overflow_add-second-2
overflow_add-second-2 c =
    let m = passed_by _ _ c.requires.bound c.requires.node_bound c.requires.spot_in _ c.pass_tree-passed.ensures in
    omega (arith, m.past, m.room)

pub overflow_add-second-3 : goal.overflow_add-second-3
overflow_add-second-3 c =
    let m = passed_by _ _ c.requires.bound c.requires.node_bound c.requires.spot_in _ c.pass_tree-passed.ensures in
    omega (arith, m.past, m.room, m.few)

pub returns : goal.returns
returns c =
    parts_are _ _ c.requires.bound c.requires.node_bound c.requires.spot_in _ c.pass_tree-passed.ensures _ refl refl refl refl refl refl refl refl
