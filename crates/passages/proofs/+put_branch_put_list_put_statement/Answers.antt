use borrow.Author.Rules.{rules}
use Prim.Native.Nat.{◌-◌}
use native.Mathlib.Omega.{arith}
use mathlib.Core.Path.{refl}
use lib.Dec.{eqb}
use Rattle.sentences.specs.Sentences.{preceding_at}
use Rattle.passages.proofs.Laws.{opening_short, between_short, branch_put, list_cut, list_ends, list_goes, plain_put, if_cut, if_put, if_else_put}
use Rattle.passages.proofs.+put_branch_put_list_put_statement.Goals as goal

pub put_branch-put_list-l-requires : goal.put_branch-put_list-l-requires
put_branch-put_list-l-requires t c =
    omega (arith, c.decreases, c.requires.0, c.requires.1, c.requires.2, c.put_opening-from.ensures.next, opening_short c.is_bare-bare.result)

pub put_branch-put_closing-to-requires : goal.put_branch-put_closing-to-requires
put_branch-put_closing-to-requires t c =
    let r = c.put_list-l.ensures in
    omega (arith, c.decreases, c.requires.0, c.requires.1, c.requires.2, r.low, r.high, r.reach, c.put_opening-from.ensures.next, opening_short c.is_bare-bare.result)

pub put_branch-returns : goal.put_branch-returns
put_branch-returns t c =
    branch_put (record { section = c.args.s.now; tags = c.args.tags.now; strings = c.args.strings.now }) c.args.i (record { write = c.args.write; lent = c.args.out.now; at = c.args.at }) c.args.otherwise c.shape_of-shape.result c.shape_of-shape.ensures _ c.is_bare-bare.ensures (eqb c.shape_of-shape.result 0) refl _ _ _ _ _ _ c.put_opening-from.ensures c.put_list-l.ensures c.put_closing-to.ensures

pub put_list-put_statement-t-requires : goal.put_list-put_statement-t-requires
put_list-put_statement-t-requires t c =
    omega (arith, c.decreases, c.requires.0, c.requires.1, c.requires.2, c.if-s-i.false, c.if-k-eq0.false, c.put_between-m.ensures.next, between_short (preceding_at c.args.preceding) c.is_item-item.result)

pub put_list-put_list-requires : goal.put_list-put_list-requires
put_list-put_list-requires t c =
    let r = c.put_statement-t.ensures in
    omega (arith, c.decreases, c.requires.0, c.requires.1, c.requires.2, c.if-s-i.false, r.low, r.high, r.reach, c.put_between-m.ensures.next, between_short (preceding_at c.args.preceding) c.is_item-item.result)

pub put_list-returns-then-s-i : goal.put_list-returns-then-s-i
put_list-returns-then-s-i t c = list_cut (record { section = c.args.s.now; tags = c.args.tags.now; strings = c.args.strings.now }) c.args.i (record { write = c.args.write; lent = c.args.out.now; at = c.args.at }) (preceding_at c.args.preceding) c.requires.0 c.if-s-i.true

pub put_list-returns-then-k-eq0 : goal.put_list-returns-then-k-eq0
put_list-returns-then-k-eq0 t c = list_ends (record { section = c.args.s.now; tags = c.args.tags.now; strings = c.args.strings.now }) c.args.i (record { write = c.args.write; lent = c.args.out.now; at = c.args.at }) (omega (arith, c.if-s-i.false)) (preceding_at c.args.preceding) c.if-k-eq0.true

pub put_list-returns : goal.put_list-returns
put_list-returns t c =
    list_goes (record { section = c.args.s.now; tags = c.args.tags.now; strings = c.args.strings.now }) c.args.i (record { write = c.args.write; lent = c.args.out.now; at = c.args.at }) (omega (arith, c.if-s-i.false)) (preceding_at c.args.preceding) c.if-k-eq0.false _ c.is_item-item.ensures _ _ _ _ _ _ c.preceding_of-after.result c.put_between-m.ensures c.put_statement-t.ensures c.preceding_of-after.ensures c.put_list.ensures

pub put_statement-put_bytes-n-requires : goal.put_statement-put_bytes-n-requires
put_statement-put_bytes-n-requires t c =
    let r = c.put_condition-c.ensures in
    omega (arith, c.decreases, c.requires.0, c.requires.1, c.requires.2, c.requires.3, r.low, r.high, r.reach, c.put_bytes-m.ensures.next)

pub put_statement-put_branch-l-requires : goal.put_statement-put_branch-l-requires
put_statement-put_branch-l-requires t c =
    let r = c.put_condition-c.ensures in
    omega (arith, c.decreases, c.requires.0, c.requires.1, c.requires.2, c.requires.3, r.low, r.high, r.reach, c.put_bytes-m.ensures.next, c.put_bytes-n.ensures.next)

pub put_statement-put_bytes-e-requires : goal.put_statement-put_bytes-e-requires
put_statement-put_bytes-e-requires t c =
    let r = c.put_condition-c.ensures in
    let l = c.put_branch-l.ensures in
    omega (arith, c.decreases, c.requires.0, c.requires.1, c.requires.2, c.requires.3, r.low, r.high, r.reach, c.put_bytes-m.ensures.next, c.put_bytes-n.ensures.next, l.low, l.high, l.reach)

pub put_statement-put_branch-requires : goal.put_statement-put_branch-requires
put_statement-put_branch-requires t c =
    let r = c.put_condition-c.ensures in
    let l = c.put_branch-l.ensures in
    omega (arith, c.decreases, c.requires.0, c.requires.1, c.requires.2, c.requires.3, r.low, r.high, r.reach, c.put_bytes-m.ensures.next, c.put_bytes-n.ensures.next, l.low, l.high, l.reach, c.put_bytes-e.ensures.next)

pub put_statement-returns-then-s-i-ne10 : goal.put_statement-returns-then-s-i-ne10
put_statement-returns-then-s-i-ne10 t c = plain_put (record { section = c.args.s.now; tags = c.args.tags.now; strings = c.args.strings.now }) c.args.i (record { write = c.args.write; lent = c.args.out.now; at = c.args.at }) _ _ _ c.past.ensures c.put_plain-to.ensures

pub put_statement-returns-then-s-next : goal.put_statement-returns-then-s-next
put_statement-returns-then-s-next t c =
    if_cut (record { section = c.args.s.now; tags = c.args.tags.now; strings = c.args.strings.now }) c.args.i (record { write = c.args.write; lent = c.args.out.now; at = c.args.at }) c.requires.0 c.if-s-i-ne10.false _ _ _ _ _ _ _ _ c.put_bytes-m.ensures c.put_condition-c.ensures c.put_bytes-n.ensures c.put_branch-l.ensures c.if-s-next.true

pub put_statement-overflow_add-result : goal.put_statement-overflow_add-result
put_statement-overflow_add-result t c = omega (arith, c.requires.1, c.if-s-next.false)

pub put_statement-returns-then-s-next-eq0 : goal.put_statement-returns-then-s-next-eq0
put_statement-returns-then-s-next-eq0 t c =
    if_put (record { section = c.args.s.now; tags = c.args.tags.now; strings = c.args.strings.now }) c.args.i (record { write = c.args.write; lent = c.args.out.now; at = c.args.at }) c.requires.0 c.if-s-i-ne10.false _ _ _ _ _ _ _ _ c.put_bytes-m.ensures c.put_condition-c.ensures c.put_bytes-n.ensures c.put_branch-l.ensures (omega (arith, c.if-s-next.false)) c.if-s-next-eq0.true

pub put_statement-shape_of-out : goal.put_statement-shape_of-out
put_statement-shape_of-out t c = omega (arith, c.out-7-1.given, c.out-6-1.given, c.out-5-1.given, c.out-4-1.given, c.out-3-1.given, c.out-2-1.given)

pub put_statement-returns : goal.put_statement-returns
put_statement-returns t c =
    if_else_put (record { section = c.args.s.now; tags = c.args.tags.now; strings = c.args.strings.now }) c.args.i (record { write = c.args.write; lent = c.args.out.now; at = c.args.at }) c.requires.0 c.if-s-i-ne10.false _ _ _ _ _ _ _ _ c.put_bytes-m.ensures c.put_condition-c.ensures c.put_bytes-n.ensures c.put_branch-l.ensures (omega (arith, c.if-s-next.false)) c.if-s-next-eq0.false _ _ _ _ c.put_bytes-e.ensures c.put_branch.ensures
