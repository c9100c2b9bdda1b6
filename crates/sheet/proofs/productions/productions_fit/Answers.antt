use native.Mathlib.Omega.{arith}
use borrow.Author.Count.{below_more}
use borrow.Author.Rules.{rules}
use Rattle.tells.specs.Tells.{fails}
use Rattle.tells.proofs.Laws.{told, not_told}
use Rattle.sheet.proofs.ProductionLaws.{nodes_next, productions_told}
use Rattle.sheet.proofs.productions.productions_fit.Goals as goal

pub returns-then-not-production_fits : goal.returns-then-not-production_fits
returns-then-not-production_fits c =
    let p = c.requires in
    let q = c.loop-q.q in
    fails (λ h. not_told c.production_fits.ensures c.if-not-production_fits.true (h.each q (omega (arith, p.layout_is.productions_is.is, c.loop-q-test.true))))

pub loop-q-preserved : goal.loop-q-preserved
loop-q-preserved c =
    let i = c.loop-q.invariant in (
      search rules,
      nodes_next c.args.s.now c.loop-q.q c.loop-q.before c.node_count_of-before.result i.1 c.node_count_of-before.ensures.is,
      below_more _ _ i.2 (told c.production_fits.ensures c.if-not-production_fits.false),
    )

pub returns : goal.returns
returns c =
    let p = c.requires in
    let i = c.loop-q.invariant in
    productions_told _ _ p c.loop-q.q c.loop-q.before (omega (arith, c.loop-q-test.false)) i.2 i.1
