use native.Mathlib.Omega.{arith}
use mathlib.Core.Path.{refl}
use mathlib.Core.Bool.{not}
use Rattle.converter.proofs.Going.{bound, event_in}
use Rattle.turns.proofs.Laws.{begins_so, may_take}
use Rattle.turns.specs.Turned.{skips, no_token, in_record, begins, other}
use Rattle.turns.proofs.Stand.turn.Goals as goal

-- One case after another.
-- Assumes nothing.
pub skip-requires : goal.skip-requires
skip-requires c = c.requires.ready.on.far

pub returns-then-self-eq-SKIPPING : goal.returns-then-self-eq-SKIPPING
returns-then-self-eq-SKIPPING c = skips c.if-self-eq-SKIPPING.true c.skip.ensures refl refl refl

pub overflow_sub-part : goal.overflow_sub-part
overflow_sub-part c = omega (arith, c.requires.ready.on.within)

pub no_token-requires : goal.no_token-requires
no_token-requires c = record { len_bound = c.requires.ready.on.far; at_le_len = c.requires.ready.on.within }

pub returns-in_default : goal.returns-in_default
returns-in_default c = no_token c.if-self-eq-SKIPPING.false c.read_on-answer.result c.number_without_token-number.result c.in_default.not-Token c.read_on-answer.ensures (c.number_without_token-number.ensures c.args.stack.now) c.no_token.ensures refl refl refl

pub record_token-requires : goal.record_token-requires
record_token-requires c = let R = c.requires.ready in record { laid_out = c.requires.laid_out; may_take = may_take R (event_in (not c.args.g.ended) c.args.part.now c.args.p.at c.in-Token.e c.in-Token.next.at (bound (not c.args.g.ended) c.args.part.now c.args.p.at c.read_on-answer.result c.in-Token.e c.in-Token.next c.read_on-answer.ensures c.in-Token.is)); waits_in_bounds = R.on.waits; put_in_bounds = R.on.room; part_bound = R.on.far; at_in_bounds = R.on.within }

pub returns-then-self-eq-INSIDE : goal.returns-then-self-eq-INSIDE
returns-then-self-eq-INSIDE c = in_record c.if-self-eq-INSIDE.true c.in-Token.e c.in-Token.next.at (bound (not c.args.g.ended) c.args.part.now c.args.p.at c.read_on-answer.result c.in-Token.e c.in-Token.next c.read_on-answer.ensures c.in-Token.is) c.record_token.ensures

pub begins_record-requires : goal.begins_record-requires
begins_record-requires c = record { laid_out = c.requires.laid_out; event_in = event_in (not c.args.g.ended) c.args.part.now c.args.p.at c.in-Token.e c.in-Token.next.at (bound (not c.args.g.ended) c.args.part.now c.args.p.at c.read_on-answer.result c.in-Token.e c.in-Token.next c.read_on-answer.ensures c.in-Token.is) }

pub overflow_add-g : goal.overflow_add-g
overflow_add-g c = omega (arith, c.requires.ready.on.within, c.requires.ready.on.far)

pub record_token-requires-then-begins_record : goal.record_token-requires-then-begins_record
record_token-requires-then-begins_record c = let R = c.requires.ready in record { laid_out = c.requires.laid_out; may_take = may_take R (event_in (not c.args.g.ended) c.args.part.now c.args.p.at c.in-Token.e c.in-Token.next.at (bound (not c.args.g.ended) c.args.part.now c.args.p.at c.read_on-answer.result c.in-Token.e c.in-Token.next c.read_on-answer.ensures c.in-Token.is)); waits_in_bounds = R.on.waits; put_in_bounds = R.on.room; part_bound = R.on.far; at_in_bounds = R.on.within }

pub returns-then-begins_record : goal.returns-then-begins_record
returns-then-begins_record c = begins c.if-self-eq-SKIPPING.false c.if-self-eq-INSIDE.false c.in-Token.e c.in-Token.next.at (bound (not c.args.g.ended) c.args.part.now c.args.p.at c.read_on-answer.result c.in-Token.e c.in-Token.next c.read_on-answer.ensures c.in-Token.is) (begins_so c.begins_record.ensures c.if-begins_record.true) c.record_token-then-begins_record.ensures

pub other_token-requires : goal.other_token-requires
other_token-requires c = let R = c.requires.ready in record { laid_out = c.requires.laid_out; may_take = may_take R (event_in (not c.args.g.ended) c.args.part.now c.args.p.at c.in-Token.e c.in-Token.next.at (bound (not c.args.g.ended) c.args.part.now c.args.p.at c.read_on-answer.result c.in-Token.e c.in-Token.next c.read_on-answer.ensures c.in-Token.is)); put_in_bounds = R.on.room }

pub returns : goal.returns
returns c = other c.if-self-eq-SKIPPING.false c.if-self-eq-INSIDE.false c.in-Token.e c.in-Token.next.at (bound (not c.args.g.ended) c.args.part.now c.args.p.at c.read_on-answer.result c.in-Token.e c.in-Token.next c.read_on-answer.ensures c.in-Token.is) (begins_so c.begins_record.ensures c.if-begins_record.false) c.other_token.ensures refl refl
