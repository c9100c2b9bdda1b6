use mathlib.Core.Path.{refl, sym, ◌∙◌}
use native.Mathlib.Omega.{arith}
use Rattle.trees.proofs.Unique.{by_kind_1}
use Rattle.trees.proofs.Tallies.{room, inner, inner_2, no_atom, four}
use Rattle.trees.proofs.Spreads.{empty_spread, nonterminal_spread, character_spread, star_spread, cat_spread, alt_spread}
use Rattle.trees.proofs.+spread.Goals as goal

pub kind_of-kind-requires : goal.kind_of-kind-requires
kind_of-kind-requires t c =
    record { laid_out = c.requires.laid_out; i_lt_nodes = omega (arith, room _ _ _ _ c.requires.tree_in, c.requires.laid_out.layout_is.nodes_is, c.requires.laid_out.few_nodes) }

pub overflow_add-result : goal.overflow_add-result
overflow_add-result t c =
    omega (arith, room _ _ _ _ c.requires.tree_in, c.requires.laid_out.layout_is.nodes_is, c.requires.laid_out.few_nodes)

pub returns-then-kind-gt5 : goal.returns-then-kind-gt5
returns-then-kind-gt5 t c = empty_spread _ _ _ _ _ _ _ _ (omega (arith, c.kind_of-kind.ensures.is, c.if-kind-gt5.true)) refl refl refl refl

pub argument_of-m-requires : goal.argument_of-m-requires
argument_of-m-requires t c =
    record { laid_out = c.requires.laid_out; i_lt_nodes = omega (arith, room _ _ _ _ c.requires.tree_in, c.requires.laid_out.layout_is.nodes_is, c.requires.laid_out.few_nodes) }

pub raise_tags-requires : goal.raise_tags-requires
raise_tags-requires t c =
    let k = sym c.kind_of-kind.ensures.is ∙ c.if-kind-eq1.true in
    let low = (by_kind_1 _ _ k c.requires.tree_in.expression c.requires.tree_in.stands).1 in
    record { known_len = c.requires.all_alike.long; sums_len = c.requires.sums_len; m_lt_nonterminals = omega (arith, low, c.argument_of-m.ensures.is) }

pub overflow_add-at : goal.overflow_add-at
overflow_add-at t c =
    omega (arith, room _ _ _ _ c.requires.tree_in, c.requires.laid_out.layout_is.nodes_is, c.requires.laid_out.few_nodes)

pub overflow_add-j : goal.overflow_add-j
overflow_add-j t c =
    omega (arith, room _ _ _ _ c.requires.tree_in, c.requires.laid_out.layout_is.nodes_is, c.requires.laid_out.few_nodes)

pub returns-then-kind-eq1 : goal.returns-then-kind-eq1
returns-then-kind-eq1 t c =
    let k = sym c.kind_of-kind.ensures.is ∙ c.if-kind-eq1.true in
    let low = (by_kind_1 _ _ k c.requires.tree_in.expression c.requires.tree_in.stands).1 in
    nonterminal_spread _ _ _ _ _ _ _ _ c.passed.ensures k _ c.requires.all_alike _ c.argument_of-m.ensures.is (omega (arith, low, c.argument_of-m.ensures.is)) c.raise_tags.ensures

pub overflow_add-at-then-kind-eq2 : goal.overflow_add-at-then-kind-eq2
overflow_add-at-then-kind-eq2 t c =
    omega (arith, room _ _ _ _ c.requires.tree_in, c.requires.laid_out.layout_is.nodes_is, c.requires.laid_out.few_nodes)

pub overflow_add-j-then-kind-eq2 : goal.overflow_add-j-then-kind-eq2
overflow_add-j-then-kind-eq2 t c =
    omega (arith, room _ _ _ _ c.requires.tree_in, c.requires.laid_out.layout_is.nodes_is, c.requires.laid_out.few_nodes)

pub returns-then-kind-eq2 : goal.returns-then-kind-eq2
returns-then-kind-eq2 t c =
    character_spread _ _ _ _ _ _ _ _ c.passed-then-kind-eq2.ensures (sym c.kind_of-kind.ensures.is ∙ c.if-kind-eq2.true) c.requires.sums_len _ c.raise.ensures refl

pub overflow_add-at-then-kind-eq5 : goal.overflow_add-at-then-kind-eq5
overflow_add-at-then-kind-eq5 t c =
    omega (arith, room _ _ _ _ c.requires.tree_in, c.requires.laid_out.layout_is.nodes_is, c.requires.laid_out.few_nodes)

pub overflow_sub-left : goal.overflow_sub-left
overflow_sub-left t c =
    (room _ _ _ _ c.requires.tree_in).0

pub walk_tree-part-requires : goal.walk_tree-part-requires
walk_tree-part-requires t c =
    record { laid_out = c.requires.laid_out; tree_in = inner _ _ _ c.kind_of-kind.ensures.is c.if-kind-gt5.false (no_atom _ _ _ c.kind_of-kind.ensures.is c.if-kind-gt5.false c.requires.tree_in.expression c.requires.tree_in.stands c.if-kind-eq1.false c.if-kind-eq2.false) _ _ c.requires.tree_in }

pub overflow_add-at-then-kind-eq5-2 : goal.overflow_add-at-then-kind-eq5-2
overflow_add-at-then-kind-eq5-2 t c =
    omega (arith, room _ _ _ _ c.requires.tree_in, c.requires.laid_out.layout_is.nodes_is, c.requires.laid_out.few_nodes)

pub overflow_sub-left-then-kind-eq5 : goal.overflow_sub-left-then-kind-eq5
overflow_sub-left-then-kind-eq5 t c =
    (room _ _ _ _ c.requires.tree_in).0

pub spread-requires : goal.spread-requires
spread-requires t c =
    (omega (arith, room _ _ _ _ c.requires.tree_in, c.decreases), (c.requires.laid_out, (c.requires.trees, (c.requires.all_alike, (c.requires.sums_len, inner _ _ _ c.kind_of-kind.ensures.is c.if-kind-gt5.false (no_atom _ _ _ c.kind_of-kind.ensures.is c.if-kind-gt5.false c.requires.tree_in.expression c.requires.tree_in.stands c.if-kind-eq1.false c.if-kind-eq2.false) _ _ c.requires.tree_in)))))

pub returns-then-kind-eq5 : goal.returns-then-kind-eq5
returns-then-kind-eq5 t c =
    let k = sym c.kind_of-kind.ensures.is ∙ c.if-kind-eq5.true in
    star_spread _ _ _ _ _ _ _ _ c.walk_tree-part.ensures _ c.turned-starts.ensures _ c.spread.ensures k _ refl refl refl

pub overflow_add-at-2 : goal.overflow_add-at-2
overflow_add-at-2 t c =
    omega (arith, room _ _ _ _ c.requires.tree_in, c.requires.laid_out.layout_is.nodes_is, c.requires.laid_out.few_nodes)

pub overflow_sub-left-2 : goal.overflow_sub-left-2
overflow_sub-left-2 t c =
    (room _ _ _ _ c.requires.tree_in).0

pub spread-first-requires : goal.spread-first-requires
spread-first-requires t c =
    (omega (arith, room _ _ _ _ c.requires.tree_in, c.decreases), (c.requires.laid_out, (c.requires.trees, (c.requires.all_alike, (c.requires.sums_len, inner _ _ _ c.kind_of-kind.ensures.is c.if-kind-gt5.false (no_atom _ _ _ c.kind_of-kind.ensures.is c.if-kind-gt5.false c.requires.tree_in.expression c.requires.tree_in.stands c.if-kind-eq1.false c.if-kind-eq2.false) _ _ c.requires.tree_in)))))

pub overflow_sub-left-then-kind-eq3 : goal.overflow_sub-left-then-kind-eq3
overflow_sub-left-then-kind-eq3 t c =
    (room _ _ _ _ c.requires.tree_in).0

pub spread-requires-then-kind-eq3 : goal.spread-requires-then-kind-eq3
spread-requires-then-kind-eq3 t c =
    (omega (arith, room _ _ _ _ c.requires.tree_in, c.decreases), (c.requires.laid_out, (c.requires.trees, (c.requires.all_alike, (c.spread-first.auto.sums ∙ c.requires.sums_len, inner_2 _ _ _ c.kind_of-kind.ensures.is c.if-kind-gt5.false (no_atom _ _ _ c.kind_of-kind.ensures.is c.if-kind-gt5.false c.requires.tree_in.expression c.requires.tree_in.stands c.if-kind-eq1.false c.if-kind-eq2.false) _ _ c.requires.tree_in _ _ c.spread-first.ensures.passes c.if-kind-eq5.false)))))

pub overflow_sub-left-3 : goal.overflow_sub-left-3
overflow_sub-left-3 t c =
    (room _ _ _ _ c.requires.tree_in).0

pub spread-second-requires : goal.spread-second-requires
spread-second-requires t c =
    (omega (arith, room _ _ _ _ c.requires.tree_in, c.decreases), (c.requires.laid_out, (c.requires.trees, (c.requires.all_alike, (c.spread-first.auto.sums ∙ c.requires.sums_len, inner_2 _ _ _ c.kind_of-kind.ensures.is c.if-kind-gt5.false (no_atom _ _ _ c.kind_of-kind.ensures.is c.if-kind-gt5.false c.requires.tree_in.expression c.requires.tree_in.stands c.if-kind-eq1.false c.if-kind-eq2.false) _ _ c.requires.tree_in _ _ c.spread-first.ensures.passes c.if-kind-eq5.false)))))

pub returns-then-kind-eq3 : goal.returns-then-kind-eq3
returns-then-kind-eq3 t c =
    cat_spread _ _ _ _ _ _ _ _ c.spread-first.ensures _ _ c.spread-then-kind-eq3.ensures (sym c.kind_of-kind.ensures.is ∙ c.if-kind-eq3.true)

pub returns : goal.returns
returns t c =
    let three = no_atom _ _ _ c.kind_of-kind.ensures.is c.if-kind-gt5.false c.requires.tree_in.expression c.requires.tree_in.stands c.if-kind-eq1.false c.if-kind-eq2.false in
    alt_spread _ _ _ _ _ _ _ _ c.spread-first.ensures _ _ _ c.spread-second.ensures c.either.ensures (four _ _ _ c.kind_of-kind.ensures.is c.if-kind-gt5.false c.requires.tree_in.expression c.requires.tree_in.stands three c.if-kind-eq3.false c.if-kind-eq5.false)
