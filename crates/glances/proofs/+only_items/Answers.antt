use borrow.Author.Rules.{rules}
use Prim.Native.Nat.{◌-◌}
use native.Mathlib.Omega.{arith}
use Rattle.glances.proofs.Laws.{items_cut, items_end, item_more, another}
use Rattle.glances.proofs.+only_items.Goals as goal

pub returns-then-s-i : goal.returns-then-s-i
returns-then-s-i t c = items_cut c.args.s.now c.args.i c.if-s-i.true

pub returns-then-k-eq0 : goal.returns-then-k-eq0
returns-then-k-eq0 t c = items_end c.args.s.now c.args.i (omega (arith, c.if-s-i.false)) c.if-k-eq0.true

pub returns-then-is_item : goal.returns-then-is_item
returns-then-is_item t c =
    item_more c.args.s.now c.args.i (omega (arith, c.if-s-i.false)) c.if-k-eq0.false _ c.is_item.ensures c.if-is_item.true _ c.past_statement-n.ensures _ c.only_items.ensures

pub returns : goal.returns
returns t c =
    another c.args.s.now c.args.i (omega (arith, c.if-s-i.false)) c.if-k-eq0.false _ c.is_item.ensures c.if-is_item.false
