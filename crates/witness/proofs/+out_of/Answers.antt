use borrow.Author.Rules.{rules}
use mathlib.Core.Path.{ap}
use lib.Dec.{eqb}
use native.Mathlib.Omega.{arith}
use Rattle.ways.proofs.Spots.{five, part_in}
use Rattle.witness.proofs.Walks.{out_empty, out_leaf, out_star, out_cat, out_alt}
use Rattle.witness.proofs.+out_of.Goals as goal

pub returns-then-kind-gt5 : goal.returns-then-kind-gt5
returns-then-kind-gt5 t c = out_empty _ _ _ c.kind_of-kind.ensures.is c.requires.spot_in c.if-kind-gt5.true _ _ c.nothing.ensures

pub closed-requires : goal.closed-requires
closed-requires t c = omega (arith, c.requires.spot_in.few)

pub returns-then-kind-lt3 : goal.returns-then-kind-lt3
returns-then-kind-lt3 t c = out_leaf _ _ _ c.kind_of-kind.ensures.is c.requires.spot_in c.if-kind-lt3.true _ _ (λ j e. ap (eqb c.args.p) e) _ _ c.when-here.ensures c.closed.ensures

pub out_of-f-requires : goal.out_of-f-requires
out_of-f-requires t c =
    let spot = c.requires.spot_in in
    let p = c.part-only.ensures in
    (omega (arith, c.decreases, p.nodes_are, spot.any), (c.requires.laid_out, part_in _ _ _ c.kind_of-kind.ensures.is _ c.part-only.ensures (five c.if-kind-gt5.false c.if-kind-gt4.true) c.requires.spot_in))

pub through-h-requires : goal.through-h-requires
through-h-requires t c = record { laid_out = c.requires.laid_out; spot_in = part_in _ _ _ c.kind_of-kind.ensures.is _ c.part-only.ensures (five c.if-kind-gt5.false c.if-kind-gt4.true) c.requires.spot_in }

pub closed-requires-then-kind-gt4 : goal.closed-requires-then-kind-gt4
closed-requires-then-kind-gt4 t c = omega (arith, c.requires.spot_in.few)

pub returns-then-kind-gt4 : goal.returns-then-kind-gt4
returns-then-kind-gt4 t c = out_star _ _ _ c.kind_of-kind.ensures.is c.requires.spot_in _ c.part-only.ensures (five c.if-kind-gt5.false c.if-kind-gt4.true) _ _ _ _ _ _ _ c.out_of-f.ensures c.through-h.ensures c.just_empty-empty.ensures c.turned-turns.ensures c.both-joint.ensures c.closed-then-kind-gt4.ensures

pub parts_of-two-requires : goal.parts_of-two-requires
parts_of-two-requires t c = record { laid_out = c.requires.laid_out; spot_in = c.requires.spot_in; bound = omega (arith, c.kind_of-kind.ensures.is); node_bound = omega (arith, c.kind_of-kind.ensures.is) }

pub out_of-f-requires-2 : goal.out_of-f-requires-2
out_of-f-requires-2 t c =
    let p = c.parts_of-two.ensures in
    (omega (arith, c.decreases, p.both), (c.requires.laid_out, p.first_in))

pub out_of-g-requires : goal.out_of-g-requires
out_of-g-requires t c =
    let p = c.parts_of-two.ensures in
    (omega (arith, c.decreases, p.both), (c.requires.laid_out, p.second_in))

pub through-h-requires-then-kind-eq3 : goal.through-h-requires-then-kind-eq3
through-h-requires-then-kind-eq3 t c = record { laid_out = c.requires.laid_out; spot_in = c.parts_of-two.ensures.second_in }

pub closed-requires-then-kind-eq3 : goal.closed-requires-then-kind-eq3
closed-requires-then-kind-eq3 t c = omega (arith, c.requires.spot_in.few)

pub returns-then-kind-eq3 : goal.returns-then-kind-eq3
returns-then-kind-eq3 t c = out_cat _ _ _ c.kind_of-kind.ensures.is c.requires.spot_in _ c.parts_of-two.ensures _ _ _ c.out_of-f-2.ensures c.out_of-g.ensures c.if-kind-eq3.true _ _ _ _ c.through-h-then-kind-eq3.ensures c.both-joint-then-kind-eq3.ensures c.either-any.ensures c.closed-then-kind-eq3.ensures

pub closed-requires-2 : goal.closed-requires-2
closed-requires-2 t c = omega (arith, c.requires.spot_in.few)

pub returns : goal.returns
returns t c = out_alt _ _ _ c.kind_of-kind.ensures.is c.requires.spot_in _ c.parts_of-two.ensures _ _ _ c.out_of-f-2.ensures c.out_of-g.ensures c.if-kind-lt3.false c.if-kind-gt4.false c.if-kind-eq3.false _ _ c.either-any-2.ensures c.closed-2.ensures
