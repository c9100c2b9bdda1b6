use native.Mathlib.Omega.{arith}
use Rattle.gleans.proofs.Stored.{kept_is}
use Rattle.gleans.proofs.Laws.{list_cut, list_ends, list_stops, list_goes, if_stops, if_goes}
use Rattle.gleans.proofs.+keep_list_keep_statement.Goals as goal

pub keep_list-keep_list-requires : goal.keep_list-keep_list-requires
keep_list-keep_list-requires t c = (omega (arith, c.decreases, c.requires.0, c.if-s-i.false, c.past_statement-n.ensures.low, c.past_statement-n.ensures.high), (c.past_statement-n.ensures.high, c.requires.1, (kept_is _ _ _ _ _ _ _ _ c.in-Some.is c.keep_statement-first.ensures).rows))

pub keep_list-returns-then-s-i : goal.keep_list-returns-then-s-i
keep_list-returns-then-s-i t c = list_cut c.args.bytes.now c.args.ends.now c.args.count c.requires.2 c.args.s.now c.args.strings.now c.args.i c.if-s-i.true

pub keep_list-returns-then-s-i-eq0 : goal.keep_list-returns-then-s-i-eq0
keep_list-returns-then-s-i-eq0 t c = list_ends c.args.bytes.now c.args.ends.now c.args.count c.requires.2 c.args.s.now c.args.strings.now c.args.i (omega (arith, c.if-s-i.false)) c.if-s-i-eq0.true

pub keep_list-returns : goal.keep_list-returns
keep_list-returns t c =
    list_goes c.args.s.now c.args.strings.now c.args.i (omega (arith, c.if-s-i.false)) c.args.bytes.now c.args.ends.now c.args.count c.if-s-i-eq0.false _ _ _ (kept_is _ _ _ _ _ _ _ _ c.in-Some.is c.keep_statement-first.ensures) _ c.past_statement-n.ensures _ _ _ c.keep_list.ensures

pub keep_list-returns-in_default : goal.keep_list-returns-in_default
keep_list-returns-in_default t c =
    list_stops c.args.s.now c.args.strings.now c.args.i (omega (arith, c.if-s-i.false)) c.args.bytes.now c.args.ends.now c.args.count c.if-s-i-eq0.false _ _ _ c.in_default.is (kept_is _ _ _ _ _ _ _ _ c.in_default.is c.keep_statement-first.ensures)

pub keep_statement-keep_list-requires-2 : goal.keep_statement-keep_list-requires-2
keep_statement-keep_list-requires-2 t c =
    (omega (arith, c.decreases, c.requires.0, c.past_condition-c.ensures.low, c.past_list-m.ensures.low, c.past_list-m.ensures.high), (c.past_list-m.ensures.high, c.requires.1, c.in_ok-l.ensures.rows))

pub keep_statement-returns-then-s-i-ne10 : goal.keep_statement-returns-then-s-i-ne10
keep_statement-returns-then-s-i-ne10 t c = c.keep_plain.ensures

pub keep_statement-returns : goal.keep_statement-returns
keep_statement-returns t c =
    if_goes c.args.s.now c.args.strings.now c.args.i c.requires.0 c.args.bytes.now c.args.ends.now c.args.count c.if-s-i-ne10.false _ c.past_condition-c.ensures _ _ _ c.in_ok-l.ensures _ c.past_list-m.ensures _ _ _ c.keep_list-2.ensures

pub keep_statement-returns-in_err-l : goal.keep_statement-returns-in_err-l
keep_statement-returns-in_err-l t c =
    if_stops c.args.s.now c.args.strings.now c.args.i c.requires.0 c.args.bytes.now c.args.ends.now c.args.count c.if-s-i-ne10.false _ c.past_condition-c.ensures _ _ _ c.from_residual.ensures c.in_err-l.ensures
