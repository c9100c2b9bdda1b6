use borrow.Author.Rules.{rules}
use native.Mathlib.Omega.{arith}
use mathlib.Core.Path.{sym, ◌∙◌}
use mathlib.Core.Bool.{true, false}
use Rattle.glances.proofs.Laws.{shape_cut, no_statement, items_shape, one_if_lem, one_plain, more_than_one}
use Rattle.glances.proofs.shape_of.Goals as goal

-- The first byte, what follows the first statement, and the rest where it is a print: each return cites the law of its shape. Assumes nothing.
pub returns-then-s-i : goal.returns-then-s-i
returns-then-s-i c = shape_cut c.args.s.now c.args.i c.if-s-i.true

pub returns-then-k-eq0 : goal.returns-then-k-eq0
returns-then-k-eq0 c = no_statement c.args.s.now c.args.i (omega (arith, c.if-s-i.false)) c.if-k-eq0.true

pub returns-then-only_items : goal.returns-then-only_items
returns-then-only_items c =
    items_shape c.args.s.now c.args.i (omega (arith, c.if-s-i.false)) c.if-k-eq0.false _ c.past_statement-n.ensures (sym c.is_item.ensures ∙ c.if-is_item.true) _ true c.only_items.ensures c.if-only_items.true

pub returns-then-is_item : goal.returns-then-is_item
returns-then-is_item c =
    items_shape c.args.s.now c.args.i (omega (arith, c.if-s-i.false)) c.if-k-eq0.false _ c.past_statement-n.ensures (sym c.is_item.ensures ∙ c.if-is_item.true) _ false c.only_items.ensures c.if-only_items.false

pub returns-then-k-eq10 : goal.returns-then-k-eq10
returns-then-k-eq10 c =
    one_if_lem c.args.s.now c.args.i (omega (arith, c.if-s-i.false)) c.if-k-eq0.false _ c.past_statement-n.ensures (sym c.is_item.ensures ∙ c.if-is_item.false) c.if-n-s.true c.if-s-n-eq0.true c.if-k-eq10.true

pub returns-then-s-n-eq0 : goal.returns-then-s-n-eq0
returns-then-s-n-eq0 c =
    one_plain c.args.s.now c.args.i (omega (arith, c.if-s-i.false)) c.if-k-eq0.false _ c.past_statement-n.ensures (sym c.is_item.ensures ∙ c.if-is_item.false) c.if-n-s.true c.if-s-n-eq0.true c.if-k-eq10.false

pub returns-else-s-n-eq0 : goal.returns-else-s-n-eq0
returns-else-s-n-eq0 c =
    more_than_one c.args.s.now c.args.i (omega (arith, c.if-s-i.false)) c.if-k-eq0.false _ c.past_statement-n.ensures (sym c.is_item.ensures ∙ c.if-is_item.false) (λ h e. c.if-s-n-eq0.false e)

pub returns-else-n-s : goal.returns-else-n-s
returns-else-n-s c =
    more_than_one c.args.s.now c.args.i (omega (arith, c.if-s-i.false)) c.if-k-eq0.false _ c.past_statement-n.ensures (sym c.is_item.ensures ∙ c.if-is_item.false) (λ h e. omega (arith, c.if-n-s.false))
