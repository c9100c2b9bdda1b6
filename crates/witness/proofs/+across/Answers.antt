use borrow.Author.Rules.{rules}
use native.Mathlib.Omega.{arith}
use Rattle.ways.proofs.Spots.{five, part_in}
use Rattle.witness.proofs.Walks.{across_empty, across_leaf, across_star, across_cat, across_alt}
use Rattle.witness.proofs.+across.Goals as goal

pub returns-then-kind-gt5 : goal.returns-then-kind-gt5
returns-then-kind-gt5 t c = across_empty _ _ _ c.kind_of-kind.ensures.is c.requires.spot_in c.if-kind-gt5.true _ _ _ c.nothing.ensures

pub returns-then-kind-lt3 : goal.returns-then-kind-lt3
returns-then-kind-lt3 t c = across_leaf _ _ _ c.kind_of-kind.ensures.is c.requires.spot_in c.if-kind-lt3.true _ _ _ c.nothing-then-kind-lt3.ensures

pub across-f-requires : goal.across-f-requires
across-f-requires t c =
    let spot = c.requires.spot_in in
    let p = c.part-only.ensures in
    (omega (arith, c.decreases, p.nodes_are, spot.any), (c.requires.laid_out, part_in _ _ _ c.kind_of-kind.ensures.is _ c.part-only.ensures (five c.if-kind-gt5.false c.if-kind-gt4.true) c.requires.spot_in))

pub out_of-o-requires : goal.out_of-o-requires
out_of-o-requires t c = record { laid_out = c.requires.laid_out; spot_in = part_in _ _ _ c.kind_of-kind.ensures.is _ c.part-only.ensures (five c.if-kind-gt5.false c.if-kind-gt4.true) c.requires.spot_in }

pub through-h-requires : goal.through-h-requires
through-h-requires t c = record { laid_out = c.requires.laid_out; spot_in = part_in _ _ _ c.kind_of-kind.ensures.is _ c.part-only.ensures (five c.if-kind-gt5.false c.if-kind-gt4.true) c.requires.spot_in }

pub into-n-requires : goal.into-n-requires
into-n-requires t c = record { laid_out = c.requires.laid_out; spot_in = part_in _ _ _ c.kind_of-kind.ensures.is _ c.part-only.ensures (five c.if-kind-gt5.false c.if-kind-gt4.true) c.requires.spot_in }

pub returns-then-kind-gt4 : goal.returns-then-kind-gt4
returns-then-kind-gt4 t c = across_star _ _ _ c.kind_of-kind.ensures.is c.requires.spot_in _ c.part-only.ensures (five c.if-kind-gt5.false c.if-kind-gt4.true) _ _ _ _ _ _ _ _ _ c.across-f.ensures c.out_of-o.ensures c.through-h.ensures c.into-n.ensures c.turned-turns.ensures c.both-joint.ensures c.either.ensures

pub parts_of-two-requires : goal.parts_of-two-requires
parts_of-two-requires t c = record { laid_out = c.requires.laid_out; spot_in = c.requires.spot_in; bound = omega (arith, c.kind_of-kind.ensures.is); node_bound = omega (arith, c.kind_of-kind.ensures.is) }

pub across-f-requires-2 : goal.across-f-requires-2
across-f-requires-2 t c =
    let p = c.parts_of-two.ensures in
    (omega (arith, c.decreases, p.both), (c.requires.laid_out, p.first_in))

pub across-g-requires : goal.across-g-requires
across-g-requires t c =
    let p = c.parts_of-two.ensures in
    (omega (arith, c.decreases, p.both), (c.requires.laid_out, p.second_in))

pub out_of-o-requires-then-kind-eq3 : goal.out_of-o-requires-then-kind-eq3
out_of-o-requires-then-kind-eq3 t c = record { laid_out = c.requires.laid_out; spot_in = c.parts_of-two.ensures.first_in }

pub into-n-requires-then-kind-eq3 : goal.into-n-requires-then-kind-eq3
into-n-requires-then-kind-eq3 t c = record { laid_out = c.requires.laid_out; spot_in = c.parts_of-two.ensures.second_in }

pub returns-then-kind-eq3 : goal.returns-then-kind-eq3
returns-then-kind-eq3 t c = across_cat _ _ _ c.kind_of-kind.ensures.is c.requires.spot_in _ c.parts_of-two.ensures _ _ _ _ c.across-f-2.ensures c.across-g.ensures c.if-kind-eq3.true _ _ _ _ _ c.out_of-o-then-kind-eq3.ensures c.into-n-then-kind-eq3.ensures c.both-joint-then-kind-eq3.ensures c.either-any.ensures c.either-then-kind-eq3.ensures

pub returns : goal.returns
returns t c = across_alt _ _ _ c.kind_of-kind.ensures.is c.requires.spot_in _ c.parts_of-two.ensures _ _ _ _ c.across-f-2.ensures c.across-g.ensures c.if-kind-lt3.false c.if-kind-gt4.false c.if-kind-eq3.false _ c.either-2.ensures
