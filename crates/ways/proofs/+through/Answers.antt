use mathlib.Core.Path.{sym, subst}
use native.Mathlib.Omega.{arith}
use Rattle.ways.specs.Walks.{Through}
use Rattle.ways.proofs.Throughs.{through_leaf, through_star, cat_first_none, cat_second_none, through_cat, through_first, through_neither, through_second}
use Rattle.ways.proofs.+through.Goals as goal

pub returns-then-kind-lt3 : goal.returns-then-kind-lt3
returns-then-kind-lt3 t c = through_leaf _ _ _ c.kind_of-kind.ensures.is _ _ c.if-kind-lt3.true

pub opened-inside-requires : goal.opened-inside-requires
opened-inside-requires t c = record { i_bound = omega (arith, c.requires.spot_in.few); n_lt_most_tried = omega (arith, c.requires.nodes_bound, c.requires.spot_in.any) }

pub closed-requires : goal.closed-requires
closed-requires t c = record { i_bound = omega (arith, c.requires.spot_in.few); n_lt_most_tried = omega (arith, c.requires.nodes_bound, c.requires.spot_in.any, c.opened-inside.ensures.one_more) }

pub shape_of-line-then-kind-gt4 : goal.shape_of-line-then-kind-gt4
shape_of-line-then-kind-gt4 t c = omega (arith, c.closed.ensures.kept.long, c.opened-inside.ensures.kept.long)

pub returns-then-kind-gt4 : goal.returns-then-kind-gt4
returns-then-kind-gt4 t c = through_star _ _ _ c.kind_of-kind.ensures.is _ _ _ _ c.opened-inside.ensures c.if-kind-gt4.true c.requires.spot_in _ _ c.closed.ensures

pub parts_of-two-requires : goal.parts_of-two-requires
parts_of-two-requires t c = record { laid_out = c.requires.laid_out; spot_in = c.requires.spot_in; bound = omega (arith, c.kind_of-kind.ensures.is); node_bound = omega (arith, c.kind_of-kind.ensures.is) }

pub returns-in_err-a : goal.returns-in_err-a
returns-in_err-a t c =
    subst (λ r. Through c.args.s.now c.args.t c.args.n c.args.line.now r c.through.new.line) (sym c.from_residual.ensures)
    (cat_first_none _ _ _ c.kind_of-kind.ensures.is _ _ _ _ c.opened-inside.ensures _ c.parts_of-two.ensures c.if-kind-eq3.true _ c.in_err-a.ensures)

pub returns-in_err-b : goal.returns-in_err-b
returns-in_err-b t c =
    subst (λ r. Through c.args.s.now c.args.t c.args.n c.args.line.now r c.through-then-kind-eq3.new.line) (sym c.from_residual-in_err-b.ensures)
    (cat_second_none _ _ _ c.kind_of-kind.ensures.is _ _ _ _ c.opened-inside.ensures _ c.parts_of-two.ensures c.if-kind-eq3.true _ _ c.in_ok-a.ensures _ c.in_err-b.ensures)

pub returns-then-kind-eq3 : goal.returns-then-kind-eq3
returns-then-kind-eq3 t c =
    through_cat _ _ _ c.kind_of-kind.ensures.is _ _ _ _ c.opened-inside.ensures _ c.parts_of-two.ensures c.if-kind-eq3.true _ _ c.in_ok-a.ensures _ _ _ _ c.in_ok-b.ensures c.closed-then-kind-eq3.ensures

pub returns-in-Some : goal.returns-in-Some
returns-in-Some t c =
    through_first _ _ _ c.kind_of-kind.ensures.is _ _ _ _ c.opened-inside.ensures _ c.parts_of-two.ensures c.if-kind-lt3.false c.if-kind-gt4.false c.if-kind-eq3.false _ _ _ _ c.in-Some.ensures c.closed-in-Some.ensures

pub returns-in_err-b-2 : goal.returns-in_err-b-2
returns-in_err-b-2 t c =
    subst (λ r. Through c.args.s.now c.args.t c.args.n c.args.line.now r c.through-3.new.line) (sym c.from_residual-in_err-b-2.ensures)
    (through_neither _ _ _ c.kind_of-kind.ensures.is _ _ _ _ c.opened-inside.ensures _ c.parts_of-two.ensures c.if-kind-lt3.false c.if-kind-gt4.false c.if-kind-eq3.false _ c.in_default.ensures _ c.in_err-b-2.ensures)

pub returns : goal.returns
returns t c =
    through_second _ _ _ c.kind_of-kind.ensures.is _ _ _ _ c.opened-inside.ensures _ c.parts_of-two.ensures c.if-kind-lt3.false c.if-kind-gt4.false c.if-kind-eq3.false _ c.in_default.ensures _ _ _ _ c.in_ok-b-2.ensures c.closed-2.ensures
