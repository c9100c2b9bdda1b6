use borrow.Author.Rules.{rules}
use native.Mathlib.Omega.{arith}
use Rattle.ways.proofs.Spots.{five, part_in}
use Rattle.signs.proofs.Order.{before_leaf, before_empty, star_own, star_part, two_own, two_first, two_second}
use Rattle.signs.proofs.+written_before.Goals as goal

pub kind_of-kind-requires : goal.kind_of-kind-requires
kind_of-kind-requires t c = search rules

pub returns-then-kind-gt5 : goal.returns-then-kind-gt5
returns-then-kind-gt5 t c = before_empty _ _ _ c.kind_of-kind.ensures.is c.requires.spot_in _ c.if-kind-gt5.true

pub returns-then-kind-lt3 : goal.returns-then-kind-lt3
returns-then-kind-lt3 t c = before_leaf _ _ _ c.kind_of-kind.ensures.is c.requires.spot_in _ c.if-kind-lt3.true

pub overflow_sub-result : goal.overflow_sub-result
overflow_sub-result t c = omega (arith, c.requires.spot_in.any)

pub returns-then-n-t : goal.returns-then-n-t
returns-then-n-t t c = star_own _ _ _ c.kind_of-kind.ensures.is c.requires.spot_in _ (five c.if-kind-gt5.false c.if-kind-gt4.true) c.if-n-t.true

pub part-only-requires : goal.part-only-requires
part-only-requires t c = search rules

pub written_before-requires : goal.written_before-requires
written_before-requires t c =
    let spot = c.requires.spot_in in
    let p = c.part-only.ensures in
    (omega (arith, c.decreases, p.nodes_are, spot.any), (c.requires.laid_out, part_in _ _ _ c.kind_of-kind.ensures.is _ p (five c.if-kind-gt5.false c.if-kind-gt4.true) spot))

pub returns-then-kind-gt4 : goal.returns-then-kind-gt4
returns-then-kind-gt4 t c = star_part _ _ _ c.kind_of-kind.ensures.is c.requires.spot_in _ (five c.if-kind-gt5.false c.if-kind-gt4.true) c.if-n-t.false _ c.part-only.ensures _ c.written_before.ensures

pub parts_of-two-requires : goal.parts_of-two-requires
parts_of-two-requires t c = record { laid_out = c.requires.laid_out; spot_in = c.requires.spot_in; bound = omega (arith, c.kind_of-kind.ensures.is); node_bound = omega (arith, c.kind_of-kind.ensures.is) }

pub returns-then-n-t-2 : goal.returns-then-n-t-2
returns-then-n-t-2 t c = two_own _ _ _ c.kind_of-kind.ensures.is c.requires.spot_in _ c.if-kind-lt3.false c.if-kind-gt4.false _ c.parts_of-two.ensures c.if-n-t-2.true

pub written_before-requires-then-n-second : goal.written_before-requires-then-n-second
written_before-requires-then-n-second t c =
    let p = c.parts_of-two.ensures in
    (omega (arith, c.decreases, p.both), (c.requires.laid_out, p.first_in))

pub returns-then-n-second : goal.returns-then-n-second
returns-then-n-second t c = two_first _ _ _ c.kind_of-kind.ensures.is c.requires.spot_in _ c.if-kind-lt3.false c.if-kind-gt4.false _ c.parts_of-two.ensures c.if-n-t-2.false c.if-n-second.true _ c.written_before-then-n-second.ensures

pub overflow_add-result : goal.overflow_add-result
overflow_add-result t c =
    let p = c.parts_of-two.ensures in
    let spot = c.requires.spot_in in
    omega (arith, p.both, spot.few)

pub written_before-requires-2 : goal.written_before-requires-2
written_before-requires-2 t c =
    let p = c.parts_of-two.ensures in
    (omega (arith, c.decreases, p.both, p.first_in.any), (c.requires.laid_out, p.second_in))

pub overflow_add-result-2 : goal.overflow_add-result-2
overflow_add-result-2 t c =
    let p = c.parts_of-two.ensures in
    let spot = c.requires.spot_in in
    omega (arith, p.both, spot.few, c.written_before-2.ensures.few)

pub returns : goal.returns
returns t c = two_second _ _ _ c.kind_of-kind.ensures.is c.requires.spot_in _ c.if-kind-lt3.false c.if-kind-gt4.false _ c.parts_of-two.ensures c.if-n-t-2.false c.if-n-second.false _ c.written_before-2.ensures
