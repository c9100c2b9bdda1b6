use mathlib.Core.Path.{sym, subst}
use native.Mathlib.Omega.{arith}
use Rattle.ways.specs.Walks.{Into}
use Rattle.ways.proofs.Intos.{into_empty, into_leaf, into_star, into_first, into_cat_none, into_cat, into_alt}
use Rattle.ways.proofs.Spots.{five, part_in}
use Rattle.ways.proofs.+into.Goals as goal

pub returns-then-kind-gt5 : goal.returns-then-kind-gt5
returns-then-kind-gt5 t c = into_empty _ _ _ c.kind_of-kind.ensures.is c.if-kind-gt5.true _ _ _

pub opened-inside-requires : goal.opened-inside-requires
opened-inside-requires t c = record { i_bound = omega (arith, c.requires.spot_in.few); n_lt_most_tried = omega (arith, c.requires.nodes_bound, c.requires.spot_in.any) }

pub returns-then-kind-lt3 : goal.returns-then-kind-lt3
returns-then-kind-lt3 t c = into_leaf _ _ _ c.kind_of-kind.ensures.is c.requires.spot_in _ _ _ _ _ c.opened-inside.ensures c.if-kind-lt3.true _ (c.atom_way.ensures _)

pub into-requires : goal.into-requires
into-requires t c =
    let p = c.part-only.ensures in
    let here = part_in _ _ _ c.kind_of-kind.ensures.is _ p (five c.if-kind-gt5.false c.if-kind-gt4.true) c.requires.spot_in in
    (omega (arith, c.decreases, p.nodes_are, c.requires.spot_in.any), (c.requires.laid_out, (here, omega (arith, c.requires.nodes_bound, p.nodes_are, c.requires.spot_in.any, c.opened-inside.ensures.one_more))))

pub returns-then-kind-gt4 : goal.returns-then-kind-gt4
returns-then-kind-gt4 t c = into_star _ _ _ c.kind_of-kind.ensures.is c.requires.spot_in _ _ _ _ _ c.opened-inside.ensures (five c.if-kind-gt5.false c.if-kind-gt4.true) _ c.part-only.ensures _ _ c.into.ensures

pub parts_of-two-requires : goal.parts_of-two-requires
parts_of-two-requires t c = record { laid_out = c.requires.laid_out; spot_in = c.requires.spot_in; bound = omega (arith, c.kind_of-kind.ensures.is); node_bound = omega (arith, c.kind_of-kind.ensures.is) }

pub returns-in-Some : goal.returns-in-Some
returns-in-Some t c = into_first _ _ _ c.kind_of-kind.ensures.is c.requires.spot_in _ _ _ _ _ c.opened-inside.ensures c.if-kind-lt3.false c.if-kind-gt4.false _ c.parts_of-two.ensures _ _ c.in-Some.ensures

pub returns-in_err-over : goal.returns-in_err-over
returns-in_err-over t c =
    subst (λ r. Into c.args.s.now c.args.t c.args.x c.args.n c.args.line.now r c.through.new.line) (sym c.from_residual.ensures)
    (into_cat_none _ _ _ c.kind_of-kind.ensures.is c.requires.spot_in _ _ _ _ _ c.opened-inside.ensures c.if-kind-lt3.false c.if-kind-gt4.false _ c.parts_of-two.ensures _ c.in_default.ensures c.if-kind-eq3.true _ c.in_err-over.ensures)

pub returns-then-kind-eq3 : goal.returns-then-kind-eq3
returns-then-kind-eq3 t c =
    into_cat _ _ _ c.kind_of-kind.ensures.is c.requires.spot_in _ _ _ _ _ c.opened-inside.ensures c.if-kind-lt3.false c.if-kind-gt4.false _ c.parts_of-two.ensures _ c.in_default.ensures c.if-kind-eq3.true _ _ c.in_ok-over.ensures _ _ c.into-then-kind-eq3.ensures

pub returns : goal.returns
returns t c =
    into_alt _ _ _ c.kind_of-kind.ensures.is c.requires.spot_in _ _ _ _ _ c.opened-inside.ensures c.if-kind-lt3.false c.if-kind-gt4.false _ c.parts_of-two.ensures _ c.in_default.ensures c.if-kind-eq3.false _ _ c.into-3.ensures
