use mathlib.Core.Path.{sym, subst}
use native.Mathlib.Omega.{arith}
use Rattle.ways.specs.Walks.{OutOf}
use Rattle.ways.proofs.Outs.{out_empty, out_here, out_elsewhere, star_none, out_star, first_none, joined_none, out_first, second_none, out_second}
use Rattle.ways.proofs.Spots.{five, part_in}
use Rattle.ways.proofs.+out_of.Goals as goal

pub returns-then-kind-gt5 : goal.returns-then-kind-gt5
returns-then-kind-gt5 t c = out_empty _ _ _ c.kind_of-kind.ensures.is c.requires.spot_in _ _ _ c.if-kind-gt5.true

pub closed-requires : goal.closed-requires
closed-requires t c = record { i_bound = omega (arith, c.requires.spot_in.few); n_lt_most_tried = omega (arith, c.requires.nodes_bound, c.requires.spot_in.any) }

pub returns-then-p-t : goal.returns-then-p-t
returns-then-p-t t c = out_here _ _ _ c.kind_of-kind.ensures.is c.requires.spot_in _ _ _ c.if-kind-lt3.true c.if-p-t.true _ _ c.closed.ensures

pub returns-then-kind-lt3 : goal.returns-then-kind-lt3
returns-then-kind-lt3 t c = out_elsewhere _ _ _ c.kind_of-kind.ensures.is c.requires.spot_in _ _ _ c.if-kind-lt3.true c.if-p-t.false

pub out_of-requires : goal.out_of-requires
out_of-requires t c =
    let p = c.part-only.ensures in
    let here = part_in _ _ _ c.kind_of-kind.ensures.is _ p (five c.if-kind-gt5.false c.if-kind-gt4.true) c.requires.spot_in in
    (omega (arith, c.decreases, p.nodes_are, c.requires.spot_in.any), (c.requires.laid_out, (here, omega (arith, c.requires.nodes_bound, p.nodes_are, c.requires.spot_in.any))))

pub returns-in_err-a : goal.returns-in_err-a
returns-in_err-a t c =
    subst (λ r. OutOf c.args.s.now c.args.t c.args.p c.args.n c.args.line.now r c.out_of.new.line) (sym c.from_residual.ensures)
    (star_none _ _ _ c.kind_of-kind.ensures.is c.requires.spot_in _ _ _ (five c.if-kind-gt5.false c.if-kind-gt4.true) _ c.part-only.ensures _ c.in_err-a.ensures)

pub returns-then-kind-gt4 : goal.returns-then-kind-gt4
returns-then-kind-gt4 t c =
    out_star _ _ _ c.kind_of-kind.ensures.is c.requires.spot_in _ _ _ (five c.if-kind-gt5.false c.if-kind-gt4.true) _ c.part-only.ensures _ _ _ _ c.in_ok-a.ensures c.closed-then-kind-gt4.ensures

pub parts_of-two-requires : goal.parts_of-two-requires
parts_of-two-requires t c = record { laid_out = c.requires.laid_out; spot_in = c.requires.spot_in; bound = omega (arith, c.kind_of-kind.ensures.is); node_bound = omega (arith, c.kind_of-kind.ensures.is) }

pub returns-in_err-a-2 : goal.returns-in_err-a-2
returns-in_err-a-2 t c =
    subst (λ r. OutOf c.args.s.now c.args.t c.args.p c.args.n c.args.line.now r c.out_of-then-p-second.new.line) (sym c.from_residual-in_err-a-2.ensures)
    (first_none _ _ _ c.kind_of-kind.ensures.is c.requires.spot_in _ _ _ c.if-kind-lt3.false c.if-kind-gt4.false _ c.parts_of-two.ensures c.if-p-second.true _ c.in_err-a-2.ensures)

pub returns-in_err-b : goal.returns-in_err-b
returns-in_err-b t c =
    subst (λ r. OutOf c.args.s.now c.args.t c.args.p c.args.n c.args.line.now r c.if_joined.new.line) (sym c.from_residual-in_err-b.ensures)
    (joined_none _ _ _ c.kind_of-kind.ensures.is c.requires.spot_in _ _ _ c.if-kind-lt3.false c.if-kind-gt4.false _ c.parts_of-two.ensures c.if-p-second.true _ _ c.in_ok-a-2.ensures _ c.in_err-b.ensures)

pub returns-then-p-second : goal.returns-then-p-second
returns-then-p-second t c =
    out_first _ _ _ c.kind_of-kind.ensures.is c.requires.spot_in _ _ _ c.if-kind-lt3.false c.if-kind-gt4.false _ c.parts_of-two.ensures c.if-p-second.true _ _ c.in_ok-a-2.ensures _ _ _ _ c.in_ok-b.ensures c.closed-then-p-second.ensures

pub returns-in_err-c : goal.returns-in_err-c
returns-in_err-c t c =
    subst (λ r. OutOf c.args.s.now c.args.t c.args.p c.args.n c.args.line.now r c.out_of-2.new.line) (sym c.from_residual-in_err-c.ensures)
    (second_none _ _ _ c.kind_of-kind.ensures.is c.requires.spot_in _ _ _ c.if-kind-lt3.false c.if-kind-gt4.false _ c.parts_of-two.ensures c.if-p-second.false _ c.in_err-c.ensures)

pub returns : goal.returns
returns t c =
    out_second _ _ _ c.kind_of-kind.ensures.is c.requires.spot_in _ _ _ c.if-kind-lt3.false c.if-kind-gt4.false _ c.parts_of-two.ensures c.if-p-second.false _ _ _ _ c.in_ok-c.ensures c.closed-2.ensures
