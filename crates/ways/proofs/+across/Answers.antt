use mathlib.Core.Path.{sym, subst}
use native.Mathlib.Omega.{arith}
use Rattle.ways.specs.Walks.{Across}
use Rattle.ways.proofs.Acrosses.{across_empty, across_leaf, across_turn, turns_none, across_turns, across_second, across_first, cat_none, across_cat, across_alt}
use Rattle.ways.proofs.Spots.{five, part_in}
use Rattle.ways.proofs.+across.Goals as goal

pub returns-then-kind-gt5 : goal.returns-then-kind-gt5
returns-then-kind-gt5 t c = across_empty _ _ _ c.kind_of-kind.ensures.is _ _ _ _ c.if-kind-gt5.true

pub returns-then-kind-lt3 : goal.returns-then-kind-lt3
returns-then-kind-lt3 t c = across_leaf _ _ _ c.kind_of-kind.ensures.is _ _ _ _ c.if-kind-lt3.true

pub parts_of-two-requires : goal.parts_of-two-requires
parts_of-two-requires t c = record { laid_out = c.requires.laid_out; spot_in = c.requires.spot_in; bound = omega (arith, c.kind_of-kind.ensures.is); node_bound = omega (arith, c.kind_of-kind.ensures.is) }

pub across-requires : goal.across-requires
across-requires t c =
    let p = c.part-only.ensures in
    let here = part_in _ _ _ c.kind_of-kind.ensures.is _ p (five c.if-kind-gt5.false c.if-kind-gt4.true) c.requires.spot_in in
    (omega (arith, c.decreases, p.nodes_are, c.requires.spot_in.any), (c.requires.laid_out, (here, omega (arith, c.requires.nodes_bound, p.nodes_are, c.requires.spot_in.any))))

pub returns-in-Some : goal.returns-in-Some
returns-in-Some t c = across_turn _ _ _ c.kind_of-kind.ensures.is _ _ _ _ (five c.if-kind-gt5.false c.if-kind-gt4.true) c.requires.spot_in _ c.part-only.ensures _ _ c.in-Some.ensures

pub out_of-requires : goal.out_of-requires
out_of-requires t c =
    let p = c.part-only.ensures in
    let here = part_in _ _ _ c.kind_of-kind.ensures.is _ p (five c.if-kind-gt5.false c.if-kind-gt4.true) c.requires.spot_in in
    record { laid_out = c.requires.laid_out; spot_in = here; nodes_bound = omega (arith, c.requires.nodes_bound, p.nodes_are, c.requires.spot_in.any) }

pub returns-in_err-out : goal.returns-in_err-out
returns-in_err-out t c =
    subst (λ r. Across c.args.s.now c.args.t c.args.p c.args.x c.args.n c.args.line.now r c.out_of.new.line) (sym c.from_residual.ensures)
    (turns_none _ _ _ c.kind_of-kind.ensures.is _ _ _ _ (five c.if-kind-gt5.false c.if-kind-gt4.true) c.requires.spot_in _ c.part-only.ensures _ c.in_default.ensures _ c.in_err-out.ensures)

pub into-requires : goal.into-requires
into-requires t c =
    let p = c.part-only.ensures in
    let here = part_in _ _ _ c.kind_of-kind.ensures.is _ p (five c.if-kind-gt5.false c.if-kind-gt4.true) c.requires.spot_in in
    record { laid_out = c.requires.laid_out; spot_in = here; nodes_bound = omega (arith, c.requires.nodes_bound, p.nodes_are, c.requires.spot_in.any, c.in_ok-out.ensures.few.1) }

pub returns-then-kind-gt4 : goal.returns-then-kind-gt4
returns-then-kind-gt4 t c =
    across_turns _ _ _ c.kind_of-kind.ensures.is _ _ _ _ (five c.if-kind-gt5.false c.if-kind-gt4.true) c.requires.spot_in _ c.part-only.ensures _ c.in_default.ensures _ _ c.in_ok-out.ensures _ _ c.into.ensures

pub returns-then-second-p : goal.returns-then-second-p
returns-then-second-p t c = across_second _ _ _ c.kind_of-kind.ensures.is _ _ _ _ c.if-kind-lt3.false c.if-kind-gt4.false _ c.parts_of-two.ensures c.if-second-p.true _ _ c.across-then-second-p.ensures

pub returns-in-Some-across : goal.returns-in-Some-across
returns-in-Some-across t c = across_first _ _ _ c.kind_of-kind.ensures.is _ _ _ _ c.if-kind-lt3.false c.if-kind-gt4.false _ c.parts_of-two.ensures _ _ c.in-Some-across.ensures

pub returns-in_err-out-2 : goal.returns-in_err-out-2
returns-in_err-out-2 t c =
    subst (λ r. Across c.args.s.now c.args.t c.args.p c.args.x c.args.n c.args.line.now r c.out_of-then-kind-eq3.new.line) (sym c.from_residual-in_err-out-2.ensures)
    (cat_none _ _ _ c.kind_of-kind.ensures.is _ _ _ _ c.if-kind-lt3.false c.if-kind-gt4.false _ c.parts_of-two.ensures _ c.in_default-across.ensures c.if-second-p.false c.if-kind-eq3.true _ c.in_err-out-2.ensures)

pub returns-then-kind-eq3 : goal.returns-then-kind-eq3
returns-then-kind-eq3 t c =
    across_cat _ _ _ c.kind_of-kind.ensures.is _ _ _ _ c.if-kind-lt3.false c.if-kind-gt4.false _ c.parts_of-two.ensures _ c.in_default-across.ensures c.if-second-p.false c.if-kind-eq3.true _ _ c.in_ok-out-2.ensures _ _ c.into-then-kind-eq3.ensures

pub returns : goal.returns
returns t c = across_alt _ _ _ c.kind_of-kind.ensures.is _ _ _ _ c.if-kind-lt3.false c.if-kind-gt4.false _ c.parts_of-two.ensures _ c.in_default-across.ensures c.if-second-p.false c.if-kind-eq3.false
