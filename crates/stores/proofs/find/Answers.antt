use mathlib.Core.Path.{sym, ◌∙◌}
use native.Mathlib.Omega.{arith}
use borrow.Author.Rules.{rules}
use Rattle.stores.proofs.Behind.{ends_counted, end_read}
use Rattle.stores.proofs.Found.{all_left, next_at, row_passed, seat_found, seat_behind}
use Rattle.stores.proofs.find.Goals as goal

pub slice_bounds-to-items-end : goal.slice_bounds-to-items-end
slice_bounds-to-items-end c = sym (ends_counted c.args.bytes.now c.args.ends.now c.args.count c.requires)

pub loop-i-init : goal.loop-i-init
loop-i-init c =
    let a = c.args in
    λ l h. all_left a.bytes.now a.ends.now a.count a.x.now l h

pub slice_bounds-row-count : goal.slice_bounds-row-count
slice_bounds-row-count c =
    let a = c.args in
    let e = end_read a.bytes.now a.ends.now a.count c.loop-i.i c.requires c.loop-i-test.true in
    (next_at a.bytes.now a.ends.now a.count a.x.now c.loop-i.i c.loop-i.from c.requires c.loop-i.invariant _ e.1 e.0).low

pub slice_bounds-row-start : goal.slice_bounds-row-start
slice_bounds-row-start c =
    let a = c.args in
    let e = end_read a.bytes.now a.ends.now a.count c.loop-i.i c.requires c.loop-i-test.true in
    search (next_at a.bytes.now a.ends.now a.count a.x.now c.loop-i.i c.loop-i.from c.requires c.loop-i.invariant _ e.1 e.0, rules)

pub slice_bounds-row-end : goal.slice_bounds-row-end
slice_bounds-row-end c =
    let a = c.args in
    let e = end_read a.bytes.now a.ends.now a.count c.loop-i.i c.requires c.loop-i-test.true in
    search (next_at a.bytes.now a.ends.now a.count a.x.now c.loop-i.i c.loop-i.from c.requires c.loop-i.invariant _ e.1 e.0, rules)

pub returns-then-eq : goal.returns-then-eq
returns-then-eq c =
    let a = c.args in
    let e = end_read a.bytes.now a.ends.now a.count c.loop-i.i c.requires c.loop-i-test.true in
    seat_found a.bytes.now a.ends.now a.count a.x.now c.loop-i.i c.loop-i.from c.requires c.loop-i.invariant _ e.1 e.0 (sym c.if-eq.true ∙ c.eq.ensures)

pub loop-i-preserved : goal.loop-i-preserved
loop-i-preserved c =
    let a = c.args in
    let e = end_read a.bytes.now a.ends.now a.count c.loop-i.i c.requires c.loop-i-test.true in
    λ l h. row_passed a.bytes.now a.ends.now a.count a.x.now c.loop-i.i c.loop-i.from l _ e.1 (c.loop-i.invariant l h) e.0 (sym c.if-eq.false ∙ c.eq.ensures)

pub returns : goal.returns
returns c =
    let a = c.args in
    seat_behind a.bytes.now a.ends.now a.count a.x.now c.loop-i.i c.loop-i.from c.requires c.loop-i.invariant (omega (arith, ends_counted a.bytes.now a.ends.now a.count c.requires))
