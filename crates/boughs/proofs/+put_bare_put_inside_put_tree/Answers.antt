use borrow.Author.Rules.{rules}
use native.Mathlib.Omega.{arith}
use Rattle.clauses.proofs.Laws.{sign_short}
use Rattle.boughs.proofs.Laws.{no_node, an_atom, a_star, a_pair, with_programs, in_its_place, join_short, binds_here, atom_here, join_here}
use Rattle.boughs.proofs.+put_bare_put_inside_put_tree.Goals as goal

pub put_bare-put_atom-n-requires : goal.put_bare-put_atom-n-requires
put_bare-put_atom-n-requires t c = omega (arith, c.requires.le_left, c.argument_of-argument.ensures.below)

pub put_bare-returns-then-b-eq3 : goal.put_bare-returns-then-b-eq3
put_bare-returns-then-b-eq3 t c =
    an_atom c.args.s.now c.args.i c.args.left (record { write = c.args.write; lent = c.args.out.now; at = c.args.at }) c.requires.le_left.0 _ (binds_here c.kind_of-kind.ensures.is c.binds_of-b.ensures.0) c.if-b-eq3.true _ _ (atom_here c.kind_of-kind.ensures.is c.argument_of-argument.ensures.is c.put_atom-n.ensures)

pub put_bare-put_tree-e-requires : goal.put_bare-put_tree-e-requires
put_bare-put_tree-e-requires t c = (omega (arith, c.decreases, c.requires.le_left), (c.requires.laid_out, omega (arith, c.requires.le_left)))

pub put_bare-put_bytes-n-requires : goal.put_bare-put_bytes-n-requires
put_bare-put_bytes-n-requires t c = let r = c.put_tree-e.ensures in omega (arith, c.requires.le_left, r.low, r.high, r.reach)

pub put_bare-returns-then-b-eq2 : goal.put_bare-returns-then-b-eq2
put_bare-returns-then-b-eq2 t c =
    a_star c.args.s.now c.args.i c.args.left (record { write = c.args.write; lent = c.args.out.now; at = c.args.at }) c.requires.le_left.0 _ (binds_here c.kind_of-kind.ensures.is c.binds_of-b.ensures.0) _ _ _ _ c.if-b-eq2.true c.put_tree-e.ensures c.put_bytes-n.ensures

pub put_bare-put_tree-e-requires-2 : goal.put_bare-put_tree-e-requires-2
put_bare-put_tree-e-requires-2 t c = (omega (arith, c.decreases, c.requires.le_left), (c.requires.laid_out, omega (arith, c.requires.le_left)))

pub put_bare-put_join-n-requires : goal.put_bare-put_join-n-requires
put_bare-put_join-n-requires t c = let r = c.put_tree-e-2.ensures in omega (arith, c.requires.le_left, r.low, r.high, r.reach)

pub put_bare-overflow_add-i-3 : goal.put_bare-overflow_add-i-3
put_bare-overflow_add-i-3 t c = search rules

pub put_bare-overflow_sub-i : goal.put_bare-overflow_sub-i
put_bare-overflow_sub-i t c = let r = c.put_tree-e-2.ensures in omega (arith, c.requires.le_left, r.low, r.high)

pub put_bare-put_tree-requires : goal.put_bare-put_tree-requires
put_bare-put_tree-requires t c =
    let r = c.put_tree-e-2.ensures in
    let k = c.kind_of-kind.result in
    (omega (arith, c.decreases, c.requires.le_left, r.low, r.high), (c.requires.laid_out, omega (arith, c.requires.le_left, r.low, r.high, r.reach, c.put_join-n.ensures.next, join_short k)))

pub put_bare-returns : goal.put_bare-returns
put_bare-returns t c =
    a_pair c.args.s.now c.args.i c.args.left (record { write = c.args.write; lent = c.args.out.now; at = c.args.at }) c.requires.le_left.0 _ (binds_here c.kind_of-kind.ensures.is c.binds_of-b.ensures.0) _ _ _ _ _ _ c.put_tree-e-2.ensures (join_here c.kind_of-kind.ensures.is c.put_join-n.ensures) c.put_tree.ensures c.if-b-eq3.false c.if-b-eq2.false

pub put_inside-put_field-from-requires : goal.put_inside-put_field-from-requires
put_inside-put_field-from-requires t c = record { laid_out = c.requires.laid_out; most_of_an_aside_bound = omega (arith, c.requires.le_left) }

pub put_inside-put_bare-e-requires : goal.put_inside-put_bare-e-requires
put_inside-put_bare-e-requires t c = (omega (arith, c.decreases), (c.requires.laid_out, omega (arith, c.requires.le_left, c.put_field-from.ensures.reach)))

pub put_inside-put_field-to-requires : goal.put_inside-put_field-to-requires
put_inside-put_field-to-requires t c = let r = c.put_bare-e.ensures in record { laid_out = c.requires.laid_out; most_of_an_aside_bound = omega (arith, c.requires.le_left, c.put_field-from.ensures.reach, r.low, r.high, r.reach) }

pub put_inside-returns : goal.put_inside-returns
put_inside-returns t c =
    with_programs c.args.s.now c.args.i c.args.left (record { write = c.args.write; lent = c.args.out.now; at = c.args.at }) _ _ _ _ _ _ _ _ c.first_program_of_node-first.ensures.is c.second_program_of_node-second.ensures.is c.put_field-from.ensures c.put_bare-e.ensures c.put_field-to.ensures

pub put_tree-returns-then-left-eq0 : goal.put_tree-returns-then-left-eq0
put_tree-returns-then-left-eq0 t c = no_node c.args.s.now c.args.i c.args.left (record { write = c.args.write; lent = c.args.out.now; at = c.args.at }) c.args.asked c.if-left-eq0.true

pub put_tree-stands_apart-apart-requires : goal.put_tree-stands_apart-apart-requires
put_tree-stands_apart-apart-requires t c = record { laid_out = c.requires.laid_out; i_lt_nodes = omega (arith, c.requires.left_bound, c.if-left-eq0.false) }

pub put_tree-put_where-from-requires : goal.put_tree-put_where-from-requires
put_tree-put_where-from-requires t c = omega (arith, c.requires.left_bound)

pub put_tree-put_inside-e-requires : goal.put_tree-put_inside-e-requires
put_tree-put_inside-e-requires t c =
    let b = c.stands_apart-apart.result in
    (omega (arith, c.decreases), (c.requires.laid_out, omega (arith, c.requires.left_bound, c.if-left-eq0.false, c.put_where-from.ensures.next, sign_short b 40)))

pub put_tree-put_where-to-requires : goal.put_tree-put_where-to-requires
put_tree-put_where-to-requires t c =
    let r = c.put_inside-e.ensures in
    let b = c.stands_apart-apart.result in
    omega (arith, c.requires.left_bound, r.low, r.high, r.reach, c.put_where-from.ensures.next, sign_short b 40)

pub put_tree-returns : goal.put_tree-returns
put_tree-returns t c =
    in_its_place c.args.s.now c.args.i c.args.left (record { write = c.args.write; lent = c.args.out.now; at = c.args.at }) _ _ _ _ _ _ c.args.asked _ c.stands_apart-apart.ensures c.put_where-from.ensures c.put_inside-e.ensures c.put_where-to.ensures
