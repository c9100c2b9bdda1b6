use native.Mathlib.Omega.{arith}
use mathlib.Core.Path.{refl, sym}
use lib.ListN.{length-take}
use lib.Seq.{length-take-le}
use Rattle.turns.proofs.Laws.{goes_as}
use Rattle.turns.specs.Turned.{breaks_off, goes_on, no_output, is_whole}
use Rattle.turns.proofs.Stand.record_token.Goals as goal

-- The token is put behind what waits; all of it is written with the last one.
-- Assumes nothing.
pub take-stepped-requires : goal.take-stepped-requires
take-stepped-requires c = record { laid_out = c.requires.laid_out; ready_at = c.requires.may_take.ready; event_in = c.requires.may_take.event; at_in_bounds = c.requires.waits_in_bounds; count_le_most_visits = c.requires.may_take.count }

pub breaks-requires : goal.breaks-requires
breaks-requires c = record { len_bound = c.requires.part_bound; at_le_len = c.requires.at_in_bounds }

pub returns-then-stepped-ne0 : goal.returns-then-stepped-ne0
returns-then-stepped-ne0 c = record { taking = c.take-stepped.result; takes = c.take-stepped.ensures; ends = breaks_off c.if-stepped-ne0.true c.breaks.ensures refl }

pub returns-then-after-ne1 : goal.returns-then-after-ne1
returns-then-after-ne1 c = record { taking = c.take-stepped.result; takes = c.take-stepped.ensures; ends = goes_on c.if-stepped-ne0.false c.if-after-ne1.true (goes_as c.goes.ensures c.inside-within.ensures) refl refl }

pub overflow_sub-out : goal.overflow_sub-out
overflow_sub-out c = omega (arith, c.requires.put_in_bounds)

pub returns-then-out-put : goal.returns-then-out-put
returns-then-out-put c = record { taking = c.take-stepped.result; takes = c.take-stepped.ensures; ends = no_output c.if-stepped-ne0.false c.if-after-ne1.false c.if-out-put.true c.stops.ensures refl refl }

pub slice_bounds-put_bytes-end-2 : goal.slice_bounds-put_bytes-end-2
slice_bounds-put_bytes-end-2 c = let k = c.take-stepped.auto.out in sym (length-take-le c.take-stepped.result.at c.take-stepped.new.out (omega (arith, c.take-stepped.ensures.stepped.inside, k)))

pub put_bytes-requires : goal.put_bytes-requires
put_bytes-requires c = omega (arith, length-take c.take-stepped.result.at c.take-stepped.new.out, c.if-out-put.false, c.requires.put_in_bounds)

pub overflow_add-put : goal.overflow_add-put
overflow_add-put c = omega (arith, c.requires.put_in_bounds, c.if-out-put.false)

pub shape_of-stack : goal.shape_of-stack
shape_of-stack c = c.take-stepped.ensures.long

pub shape_of-area : goal.shape_of-area
shape_of-area c = c.take-stepped.auto.out

pub returns : goal.returns
returns c = record { taking = c.take-stepped.result; takes = c.take-stepped.ensures; ends = is_whole c.if-stepped-ne0.false c.if-after-ne1.false c.if-out-put.false (goes_as c.goes-2.ensures c.between-whole.ensures) c.put_bytes.ensures.left refl }
