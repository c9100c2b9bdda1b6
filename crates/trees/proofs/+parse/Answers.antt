use mathlib.Core.Path.{sym, subst}
use native.Mathlib.Omega.{arith}
use Rattle.trees.specs.Parsed.{ParsedAt}
use Rattle.trees.proofs.Parses.{ends, no_nodes, no_depth, no_fit, leaf_tree, empty_tree, inner_none, star_tree, two_tree}
use Rattle.tells.proofs.Laws.{told}
use Rattle.tells.proofs.Laws.{not_told}
use Rattle.trees.proofs.+parse.Goals as goal

pub returns-then-left-eq0 : goal.returns-then-left-eq0
returns-then-left-eq0 t c = no_nodes _ _ _ _ c.if-left-eq0.true

pub returns-then-deep-eq0 : goal.returns-then-deep-eq0
returns-then-deep-eq0 t c = no_depth _ _ _ _ c.if-deep-eq0.true

pub returns-then-not-node_fits : goal.returns-then-not-node_fits
returns-then-not-node_fits t c =
    no_fit _ _ _ _ _ _ c.kind_of-kind.ensures.is c.argument_of-argument.ensures.is (not_told c.node_fits.ensures c.if-not-node_fits.true)

pub returns-then-kind-gt5 : goal.returns-then-kind-gt5
returns-then-kind-gt5 t c =
    empty_tree _ _ _ _ _ _ c.kind_of-kind.ensures.is c.argument_of-argument.ensures.is (told c.node_fits.ensures c.if-not-node_fits.false) c.if-left-eq0.false c.if-deep-eq0.false c.if-kind-gt5.true

pub returns-then-kind-lt3 : goal.returns-then-kind-lt3
returns-then-kind-lt3 t c =
    leaf_tree _ _ _ _ _ _ c.kind_of-kind.ensures.is c.argument_of-argument.ensures.is (told c.node_fits.ensures c.if-not-node_fits.false) c.if-left-eq0.false c.if-deep-eq0.false c.if-kind-lt3.true

pub parse-requires : goal.parse-requires
parse-requires t c = (omega arith, (c.requires.laid_out, omega arith))

pub returns-in_err-j : goal.returns-in_err-j
returns-in_err-j t c =
    subst (ParsedAt c.args.s.now c.args.i c.args.left c.args.deep) (sym c.from_residual.ensures)
    (inner_none _ _ _ _ _ _ c.kind_of-kind.ensures.is c.argument_of-argument.ensures.is (told c.node_fits.ensures c.if-not-node_fits.false) c.if-left-eq0.false c.if-deep-eq0.false c.if-kind-gt5.false c.if-kind-lt3.false c.in_err-j.ensures)

pub returns-then-kind-eq5 : goal.returns-then-kind-eq5
returns-then-kind-eq5 t c =
    star_tree _ _ _ _ _ _ c.kind_of-kind.ensures.is c.argument_of-argument.ensures.is (told c.node_fits.ensures c.if-not-node_fits.false) c.if-left-eq0.false c.if-deep-eq0.false c.if-kind-gt5.false c.if-kind-lt3.false _ c.if-kind-eq5.true c.in_ok-j.ensures

pub overflow_sub-i : goal.overflow_sub-i
overflow_sub-i t c = omega (arith, ends c.in_ok-j.ensures)

pub parse-requires-2 : goal.parse-requires-2
parse-requires-2 t c =
    let e = ends c.in_ok-j.ensures in
    (omega arith, (c.requires.laid_out, omega arith))

pub returns : goal.returns
returns t c =
    two_tree _ _ _ _ _ _ c.kind_of-kind.ensures.is c.argument_of-argument.ensures.is (told c.node_fits.ensures c.if-not-node_fits.false) c.if-left-eq0.false c.if-deep-eq0.false c.if-kind-gt5.false c.if-kind-lt3.false c.if-kind-eq5.false _ c.in_ok-j.ensures c.parse-2.result c.parse-2.ensures
