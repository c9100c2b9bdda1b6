use borrow.Author.Rules.{rules}
use native.Mathlib.Omega.{arith}
use Rattle.ways.proofs.Spots.{five, part_in}
use Rattle.witness.proofs.Walks.{into_empty, into_leaf, into_star, into_cat, into_alt}
use Rattle.witness.proofs.+into.Goals as goal

pub returns-then-kind-gt5 : goal.returns-then-kind-gt5
returns-then-kind-gt5 t c = into_empty _ _ _ c.kind_of-kind.ensures.is c.requires.spot_in c.if-kind-gt5.true _ _ c.nothing.ensures

pub opened-requires : goal.opened-requires
opened-requires t c = omega (arith, c.requires.spot_in.few)

pub returns-then-kind-lt3 : goal.returns-then-kind-lt3
returns-then-kind-lt3 t c = into_leaf _ _ _ c.kind_of-kind.ensures.is c.requires.spot_in c.if-kind-lt3.true _ _ c.argument_of-n.ensures.is _ c.atom_can-can.ensures _ _ c.when-here.ensures c.opened.ensures

pub through-f-requires : goal.through-f-requires
through-f-requires t c = record { laid_out = c.requires.laid_out; spot_in = part_in _ _ _ c.kind_of-kind.ensures.is _ c.part-only.ensures (five c.if-kind-gt5.false c.if-kind-gt4.true) c.requires.spot_in }

pub into-g-requires : goal.into-g-requires
into-g-requires t c =
    let spot = c.requires.spot_in in
    let p = c.part-only.ensures in
    (omega (arith, c.decreases, p.nodes_are, spot.any), (c.requires.laid_out, part_in _ _ _ c.kind_of-kind.ensures.is _ c.part-only.ensures (five c.if-kind-gt5.false c.if-kind-gt4.true) c.requires.spot_in))

pub opened-requires-then-kind-gt4 : goal.opened-requires-then-kind-gt4
opened-requires-then-kind-gt4 t c = omega (arith, c.requires.spot_in.few)

pub returns-then-kind-gt4 : goal.returns-then-kind-gt4
returns-then-kind-gt4 t c = into_star _ _ _ c.kind_of-kind.ensures.is c.requires.spot_in _ c.part-only.ensures (five c.if-kind-gt5.false c.if-kind-gt4.true) _ _ _ _ _ c.through-f.ensures c.into-g.ensures c.turned-turns.ensures c.opened-then-kind-gt4.ensures

pub parts_of-two-requires : goal.parts_of-two-requires
parts_of-two-requires t c = record { laid_out = c.requires.laid_out; spot_in = c.requires.spot_in; bound = omega (arith, c.kind_of-kind.ensures.is); node_bound = omega (arith, c.kind_of-kind.ensures.is) }

pub into-f-requires : goal.into-f-requires
into-f-requires t c =
    let p = c.parts_of-two.ensures in
    (omega (arith, c.decreases, p.both), (c.requires.laid_out, p.first_in))

pub into-g-requires-2 : goal.into-g-requires-2
into-g-requires-2 t c =
    let p = c.parts_of-two.ensures in
    (omega (arith, c.decreases, p.both), (c.requires.laid_out, p.second_in))

pub through-h-requires : goal.through-h-requires
through-h-requires t c = record { laid_out = c.requires.laid_out; spot_in = c.parts_of-two.ensures.first_in }

pub opened-requires-then-kind-eq3 : goal.opened-requires-then-kind-eq3
opened-requires-then-kind-eq3 t c = omega (arith, c.requires.spot_in.few)

pub returns-then-kind-eq3 : goal.returns-then-kind-eq3
returns-then-kind-eq3 t c = into_cat _ _ _ c.kind_of-kind.ensures.is c.requires.spot_in _ c.parts_of-two.ensures _ _ _ c.into-f.ensures c.into-g-2.ensures c.if-kind-eq3.true _ _ _ _ c.through-h.ensures c.both-joint.ensures c.either-any.ensures c.opened-then-kind-eq3.ensures

pub opened-requires-2 : goal.opened-requires-2
opened-requires-2 t c = omega (arith, c.requires.spot_in.few)

pub returns : goal.returns
returns t c = into_alt _ _ _ c.kind_of-kind.ensures.is c.requires.spot_in _ c.parts_of-two.ensures _ _ _ c.into-f.ensures c.into-g-2.ensures c.if-kind-lt3.false c.if-kind-gt4.false c.if-kind-eq3.false _ _ c.either-any-2.ensures c.opened-2.ensures
