use mathlib.Core.Path.{sym, ◌∙◌}
use native.Mathlib.Omega.{arith}
use Rattle.trees.proofs.Tallies.{room, inner, inner_2, four, leaf_tallied, empty_tallied, star_tallied, cat_tallied, alt_tallied}
use Rattle.trees.proofs.+walk_tree.Goals as goal

pub kind_of-kind-requires : goal.kind_of-kind-requires
kind_of-kind-requires t c =
    record { laid_out = c.requires.laid_out; i_lt_nodes = omega (arith, room _ _ _ _ c.requires.tree_in, c.requires.laid_out.layout_is.nodes_is) }

pub overflow_add-at : goal.overflow_add-at
overflow_add-at t c =
    omega (arith, room _ _ _ _ c.requires.tree_in, c.requires.laid_out.layout_is.nodes_is, c.requires.laid_out.few_nodes)

pub returns-then-kind-gt5 : goal.returns-then-kind-gt5
returns-then-kind-gt5 t c = empty_tallied _ _ _ _ _ c.hollow.ensures (omega (arith, c.kind_of-kind.ensures.is, c.if-kind-gt5.true))

pub overflow_add-at-then-kind-lt3 : goal.overflow_add-at-then-kind-lt3
overflow_add-at-then-kind-lt3 t c =
    omega (arith, room _ _ _ _ c.requires.tree_in, c.requires.laid_out.layout_is.nodes_is, c.requires.laid_out.few_nodes)

pub overflow_add-j : goal.overflow_add-j
overflow_add-j t c =
    omega (arith, room _ _ _ _ c.requires.tree_in, c.requires.laid_out.layout_is.nodes_is, c.requires.laid_out.few_nodes)

pub returns-then-kind-lt3 : goal.returns-then-kind-lt3
returns-then-kind-lt3 t c = leaf_tallied _ _ _ _ _ c.leaf.ensures _ c.kind_of-kind.ensures.is c.if-kind-lt3.true

pub overflow_add-at-2 : goal.overflow_add-at-2
overflow_add-at-2 t c =
    omega (arith, room _ _ _ _ c.requires.tree_in, c.requires.laid_out.layout_is.nodes_is, c.requires.laid_out.few_nodes)

pub overflow_sub-left : goal.overflow_sub-left
overflow_sub-left t c = (room _ _ _ _ c.requires.tree_in).0

pub walk_tree-first-requires : goal.walk_tree-first-requires
walk_tree-first-requires t c =
    (omega (arith, room _ _ _ _ c.requires.tree_in, c.decreases), (c.requires.laid_out, inner _ _ _ c.kind_of-kind.ensures.is c.if-kind-gt5.false c.if-kind-lt3.false _ _ c.requires.tree_in))

pub returns-then-kind-eq5 : goal.returns-then-kind-eq5
returns-then-kind-eq5 t c = star_tallied _ _ _ _ _ _ c.walk_tree-first.ensures c.star.ensures (sym c.kind_of-kind.ensures.is ∙ c.if-kind-eq5.true)

pub overflow_sub-left-2 : goal.overflow_sub-left-2
overflow_sub-left-2 t c = (room _ _ _ _ c.requires.tree_in).0

pub walk_tree-second-requires : goal.walk_tree-second-requires
walk_tree-second-requires t c =
    (omega (arith, room _ _ _ _ c.requires.tree_in, c.decreases), (c.requires.laid_out, inner_2 _ _ _ c.kind_of-kind.ensures.is c.if-kind-gt5.false c.if-kind-lt3.false _ _ c.requires.tree_in _ _ c.walk_tree-first.ensures.passes c.if-kind-eq5.false))

pub returns-then-kind-eq3 : goal.returns-then-kind-eq3
returns-then-kind-eq3 t c = cat_tallied _ _ _ _ _ _ c.walk_tree-first.ensures _ c.walk_tree-second.ensures c.cat.ensures (sym c.kind_of-kind.ensures.is ∙ c.if-kind-eq3.true)

pub returns : goal.returns
returns t c =
    alt_tallied _ _ _ _ _ _ c.walk_tree-first.ensures _ c.walk_tree-second.ensures c.alt.ensures (four _ _ _ c.kind_of-kind.ensures.is c.if-kind-gt5.false c.requires.tree_in.expression c.requires.tree_in.stands c.if-kind-lt3.false c.if-kind-eq3.false c.if-kind-eq5.false)
