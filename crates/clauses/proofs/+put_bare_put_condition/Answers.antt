use borrow.Author.Rules.{rules}
use mathlib.Core.Path.{refl, ap}
use Prim.Native.Nat.{ℕ, ◌-◌}
use native.Mathlib.Omega.{arith}
use lib.Dec.{ltb}
use lib.ListN.{get_or}
use Rattle.clauses.proofs.Laws.{word_short, sign_short, nothing_left, wrapped, not_it, two_of}
use Rattle.clauses.proofs.+put_bare_put_condition.Goals as goal

pub put_bare-returns-then-k-eq0 : goal.put_bare-returns-then-k-eq0
put_bare-returns-then-k-eq0 t c = c.put_comparison.ensures

pub put_bare-returns-then-k-eq1 : goal.put_bare-returns-then-k-eq1
put_bare-returns-then-k-eq1 t c =
    not_it c.args.s.now c.args.i (record { write = c.args.write; lent = c.args.out.now; at = c.args.at }) c.requires.0 c.if-k-eq1.true _ c.binds_of-b.ensures.0 _ _ _ _ c.put_bytes-n.ensures c.put_condition.ensures

pub put_bare-put_word-n-requires : goal.put_bare-put_word-n-requires
put_bare-put_word-n-requires t c =
    let r = c.put_condition-c.ensures in
    omega (arith, c.requires.0, c.requires.1, r.low, r.high, r.reach)

pub put_bare-put_condition-requires-2 : goal.put_bare-put_condition-requires-2
put_bare-put_condition-requires-2 t c =
    let r = c.put_condition-c.ensures in
    omega (arith, c.decreases, c.requires.0, c.requires.1, r.low, r.high, r.reach, c.put_word-n.ensures.next, word_short (get_or c.args.s.now c.args.i 0))

pub put_bare-returns : goal.put_bare-returns
put_bare-returns t c =
    two_of c.args.s.now c.args.i (record { write = c.args.write; lent = c.args.out.now; at = c.args.at }) c.requires.0 (get_or c.args.s.now c.args.i 0) refl _ c.binds_of-b.ensures.0 _ _ _ _ _ _ c.put_condition-c.ensures c.put_word-n.ensures c.put_condition-2.ensures c.if-k-eq0.false c.if-k-eq1.false

pub put_condition-returns-then-s-i : goal.put_condition-returns-then-s-i
put_condition-returns-then-s-i t c =
    nothing_left c.args.s.now c.args.i (record { write = c.args.write; lent = c.args.out.now; at = c.args.at }) c.args.asked c.requires.0 c.if-s-i.true

pub put_condition-put_bare-c-requires : goal.put_condition-put_bare-c-requires
put_condition-put_bare-c-requires t c =
    let b = c.binds_of.result in
    omega (arith, c.decreases, c.requires.0, c.requires.1, c.if-s-i.false, c.put_where-from.ensures.next, sign_short (ltb b c.args.asked) 40)

pub put_condition-put_where-to-requires : goal.put_condition-put_where-to-requires
put_condition-put_where-to-requires t c =
    let r = c.put_bare-c.ensures in
    let b = c.binds_of.result in
    omega (arith, c.requires.0, c.requires.1, r.low, r.high, r.reach, c.put_where-from.ensures.next, sign_short (ltb b c.args.asked) 40)

pub put_condition-returns : goal.put_condition-returns
put_condition-returns t c =
    let b = c.binds_of in
    wrapped c.args.s.now c.args.i (record { write = c.args.write; lent = c.args.out.now; at = c.args.at }) c.args.asked (ltb b.result c.args.asked) (ap (λ (n : ℕ). ltb n c.args.asked) b.ensures.0) _ _ _ _ _ _ c.put_where-from.ensures c.put_bare-c.ensures c.put_where-to.ensures
