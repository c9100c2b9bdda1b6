use borrow.Author.Rules.{rules}
use native.Mathlib.Omega.{arith}
use Rattle.ways.proofs.Spots.{five, part_in}
use Rattle.witness.proofs.Walks.{through_empty, through_leaf, through_star, through_cat, through_alt}
use Rattle.witness.proofs.+through.Goals as goal

pub closed-shut-requires : goal.closed-shut-requires
closed-shut-requires t c = omega (arith, c.requires.spot_in.few)

pub opened-requires : goal.opened-requires
opened-requires t c = omega (arith, c.requires.spot_in.few)

pub returns-then-kind-gt5 : goal.returns-then-kind-gt5
returns-then-kind-gt5 t c = through_empty _ _ _ c.kind_of-kind.ensures.is c.requires.spot_in c.if-kind-gt5.true _ _ _ c.just_empty-empty.ensures c.closed-shut.ensures c.opened.ensures

pub returns-then-kind-lt3 : goal.returns-then-kind-lt3
returns-then-kind-lt3 t c = through_leaf _ _ _ c.kind_of-kind.ensures.is c.requires.spot_in c.if-kind-lt3.true _ c.nothing.ensures

pub through-f-requires : goal.through-f-requires
through-f-requires t c =
    let spot = c.requires.spot_in in
    let p = c.part-only.ensures in
    (omega (arith, c.decreases, p.nodes_are, spot.any), (c.requires.laid_out, part_in _ _ _ c.kind_of-kind.ensures.is _ p (five c.if-kind-gt5.false c.if-kind-gt4.true) spot))

pub closed-shut-requires-then-kind-gt4 : goal.closed-shut-requires-then-kind-gt4
closed-shut-requires-then-kind-gt4 t c = omega (arith, c.requires.spot_in.few)

pub opened-requires-then-kind-gt4 : goal.opened-requires-then-kind-gt4
opened-requires-then-kind-gt4 t c = omega (arith, c.requires.spot_in.few)

pub returns-then-kind-gt4 : goal.returns-then-kind-gt4
returns-then-kind-gt4 t c = through_star _ _ _ c.kind_of-kind.ensures.is c.requires.spot_in _ c.part-only.ensures (five c.if-kind-gt5.false c.if-kind-gt4.true) _ _ _ _ _ c.through-f.ensures c.just_empty-empty-then-kind-gt4.ensures c.turned-turns.ensures c.closed-shut-then-kind-gt4.ensures c.opened-then-kind-gt4.ensures

pub parts_of-two-requires : goal.parts_of-two-requires
parts_of-two-requires t c = record { laid_out = c.requires.laid_out; spot_in = c.requires.spot_in; bound = omega (arith, c.kind_of-kind.ensures.is); node_bound = omega (arith, c.kind_of-kind.ensures.is) }

pub through-f-requires-2 : goal.through-f-requires-2
through-f-requires-2 t c =
    let p = c.parts_of-two.ensures in
    (omega (arith, c.decreases, p.both), (c.requires.laid_out, p.first_in))

pub through-g-requires : goal.through-g-requires
through-g-requires t c =
    let p = c.parts_of-two.ensures in
    (omega (arith, c.decreases, p.both), (c.requires.laid_out, p.second_in))

pub closed-shut-requires-then-kind-eq3 : goal.closed-shut-requires-then-kind-eq3
closed-shut-requires-then-kind-eq3 t c = omega (arith, c.requires.spot_in.few)

pub opened-requires-then-kind-eq3 : goal.opened-requires-then-kind-eq3
opened-requires-then-kind-eq3 t c = omega (arith, c.requires.spot_in.few)

pub returns-then-kind-eq3 : goal.returns-then-kind-eq3
returns-then-kind-eq3 t c = through_cat _ _ _ c.kind_of-kind.ensures.is c.requires.spot_in _ c.parts_of-two.ensures _ _ c.through-f-2.ensures c.through-g.ensures c.if-kind-eq3.true _ _ _ c.both-joint.ensures c.closed-shut-then-kind-eq3.ensures c.opened-then-kind-eq3.ensures

pub closed-shut-requires-2 : goal.closed-shut-requires-2
closed-shut-requires-2 t c = omega (arith, c.requires.spot_in.few)

pub opened-requires-2 : goal.opened-requires-2
opened-requires-2 t c = omega (arith, c.requires.spot_in.few)

pub returns : goal.returns
returns t c = through_alt _ _ _ c.kind_of-kind.ensures.is c.requires.spot_in _ c.parts_of-two.ensures _ _ c.through-f-2.ensures c.through-g.ensures c.if-kind-lt3.false c.if-kind-gt4.false c.if-kind-eq3.false _ _ _ c.either-any.ensures c.closed-shut-2.ensures c.opened-2.ensures
