use borrow.Author.Rules.{rules}
use Prim.Native.Nat.{◌-◌}
use native.Mathlib.Omega.{arith}
use Rattle.glances.proofs.Laws.{list_cut, list_end, list_on, plain_end, branch_end}
use Rattle.glances.proofs.+past_list_past_statement.Goals as goal

pub past_list-returns-then-s-i : goal.past_list-returns-then-s-i
past_list-returns-then-s-i t c = list_cut c.args.s.now c.args.i c.requires c.if-s-i.true

pub past_list-returns-then-s-i-eq0 : goal.past_list-returns-then-s-i-eq0
past_list-returns-then-s-i-eq0 t c = list_end c.args.s.now c.args.i (omega (arith, c.if-s-i.false)) c.if-s-i-eq0.true

pub past_list-returns : goal.past_list-returns
past_list-returns t c = list_on c.args.s.now c.args.i (omega (arith, c.if-s-i.false)) c.if-s-i-eq0.false _ _ c.past_statement-n.ensures c.past_list.ensures

pub past_statement-returns-then-s-i-ne10 : goal.past_statement-returns-then-s-i-ne10
past_statement-returns-then-s-i-ne10 t c = plain_end c.args.s.now c.args.i c.requires _ c.past.ensures

pub past_statement-returns : goal.past_statement-returns
past_statement-returns t c = branch_end c.args.s.now c.args.i c.requires c.if-s-i-ne10.false _ _ _ c.past_condition-c.ensures c.past_list-l.ensures c.past_list.ensures
