use mathlib.Core.Path.{refl, sym, ◌∙◌}
use mathlib.Core.Bool.{true, false}
use native.Mathlib.Omega.{arith}
use borrow.Author.Tests.{lt-ltb, le-ltb}
use Rattle.trees.proofs.Tallies.{room, inner, no_atom}
use Rattle.fit.proofs.Spots.{empty_walked, nonterminal_walked, character_walked, star_walked, second_tree, pair_walked}
use Rattle.fit.proofs.+walk.Goals as goal

pub kind_of-kind-requires : goal.kind_of-kind-requires
kind_of-kind-requires t c =
    record { laid_out = c.requires.laid_out; i_lt_nodes = omega (arith, room _ _ _ _ c.requires.tree_in, c.requires.laid_out.layout_is.nodes_is) }

pub overflow_add-at : goal.overflow_add-at
overflow_add-at t c =
    omega (arith, room _ _ _ _ c.requires.tree_in, c.requires.laid_out.layout_is.nodes_is, c.requires.laid_out.few_nodes)

pub returns-then-kind-gt5 : goal.returns-then-kind-gt5
returns-then-kind-gt5 t c =
    empty_walked _ _ _ _ _ c.leaf.ensures (omega (arith, c.kind_of-kind.ensures.is, c.if-kind-gt5.true)) (room _ _ _ _ c.requires.tree_in).1

pub argument_of-child-requires : goal.argument_of-child-requires
argument_of-child-requires t c =
    record { laid_out = c.requires.laid_out; i_lt_nodes = omega (arith, room _ _ _ _ c.requires.tree_in, c.requires.laid_out.layout_is.nodes_is) }

pub overflow_add-at-then-kind-eq1 : goal.overflow_add-at-then-kind-eq1
overflow_add-at-then-kind-eq1 t c =
    omega (arith, room _ _ _ _ c.requires.tree_in, c.requires.laid_out.layout_is.nodes_is, c.requires.laid_out.few_nodes)

pub overflow_add-j : goal.overflow_add-j
overflow_add-j t c =
    omega (arith, room _ _ _ _ c.requires.tree_in, c.requires.laid_out.layout_is.nodes_is, c.requires.laid_out.few_nodes)

pub returns-then-kind-eq1 : goal.returns-then-kind-eq1
returns-then-kind-eq1 t c =
    nonterminal_walked _ _ _ _ _ _ c.leaf-then-kind-eq1.ensures (sym c.kind_of-kind.ensures.is ∙ c.if-kind-eq1.true) c.argument_of-child.ensures.is (room _ _ _ _ c.requires.tree_in).1

pub overflow_add-at-then-kind-eq2 : goal.overflow_add-at-then-kind-eq2
overflow_add-at-then-kind-eq2 t c =
    omega (arith, room _ _ _ _ c.requires.tree_in, c.requires.laid_out.layout_is.nodes_is, c.requires.laid_out.few_nodes)

pub overflow_add-j-then-kind-eq2 : goal.overflow_add-j-then-kind-eq2
overflow_add-j-then-kind-eq2 t c =
    omega (arith, room _ _ _ _ c.requires.tree_in, c.requires.laid_out.layout_is.nodes_is, c.requires.laid_out.few_nodes)

pub returns-then-kind-eq2 : goal.returns-then-kind-eq2
returns-then-kind-eq2 t c =
    character_walked _ _ _ _ _ c.leaf-then-kind-eq2.ensures (sym c.kind_of-kind.ensures.is ∙ c.if-kind-eq2.true) (room _ _ _ _ c.requires.tree_in).1

pub overflow_add-at-2 : goal.overflow_add-at-2
overflow_add-at-2 t c =
    omega (arith, room _ _ _ _ c.requires.tree_in, c.requires.laid_out.layout_is.nodes_is, c.requires.laid_out.few_nodes)

pub overflow_sub-left : goal.overflow_sub-left
overflow_sub-left t c = (room _ _ _ _ c.requires.tree_in).0

pub walk-first-requires : goal.walk-first-requires
walk-first-requires t c =
    (omega (arith, room _ _ _ _ c.requires.tree_in, c.decreases), (c.requires.laid_out, inner _ _ _ c.kind_of-kind.ensures.is c.if-kind-gt5.false (no_atom _ _ _ c.kind_of-kind.ensures.is c.if-kind-gt5.false c.requires.tree_in.expression c.requires.tree_in.stands c.if-kind-eq1.false c.if-kind-eq2.false) _ _ c.requires.tree_in))

pub around-requires : goal.around-requires
around-requires t c =
    omega (arith, c.walk-first.ensures.few, c.requires.laid_out.layout_is.nodes_is, c.requires.laid_out.few_nodes)

pub returns-then-kind-eq5 : goal.returns-then-kind-eq5
returns-then-kind-eq5 t c = star_walked _ _ _ _ _ c.walk-first.ensures _ c.around.ensures (sym c.kind_of-kind.ensures.is ∙ c.if-kind-eq5.true)

pub overflow_sub-left-2 : goal.overflow_sub-left-2
overflow_sub-left-2 t c = (room _ _ _ _ c.requires.tree_in).0

pub walk-second-requires : goal.walk-second-requires
walk-second-requires t c =
    (omega (arith, room _ _ _ _ c.requires.tree_in, c.decreases), (c.requires.laid_out, second_tree _ _ _ _ _ c.walk-first.ensures _ c.kind_of-kind.ensures.is c.if-kind-gt5.false c.if-kind-eq1.false c.if-kind-eq2.false c.if-kind-eq5.false _ c.requires.tree_in))

pub around-requires-then-p-atom : goal.around-requires-then-p-atom
around-requires-then-p-atom t c =
    omega (arith, c.walk-first.ensures.few, c.requires.laid_out.layout_is.nodes_is, c.requires.laid_out.few_nodes)

pub returns-then-p-atom : goal.returns-then-p-atom
returns-then-p-atom t c =
    pair_walked _ _ _ _ _ c.walk-first.ensures _ c.kind_of-kind.ensures.is c.if-kind-gt5.false c.if-kind-eq1.false c.if-kind-eq2.false c.if-kind-eq5.false _ c.walk-second.ensures true (lt-ltb _ _ c.if-p-atom.true) _ refl _ c.around-then-p-atom.ensures

pub around-requires-2 : goal.around-requires-2
around-requires-2 t c =
    omega (arith, c.walk-second.ensures.few, c.requires.laid_out.layout_is.nodes_is, c.requires.laid_out.few_nodes)

pub returns : goal.returns
returns t c =
    pair_walked _ _ _ _ _ c.walk-first.ensures _ c.kind_of-kind.ensures.is c.if-kind-gt5.false c.if-kind-eq1.false c.if-kind-eq2.false c.if-kind-eq5.false _ c.walk-second.ensures false (le-ltb _ _ c.if-p-atom.false) _ refl _ c.around-2.ensures
