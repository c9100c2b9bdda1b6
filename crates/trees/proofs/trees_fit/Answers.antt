use native.Mathlib.Omega.{arith}
use borrow.Author.Count.{below_more}
use Rattle.trees.proofs.Parses.{trees_all, trees_not}
use Rattle.tells.proofs.Laws.{told}
use Rattle.tells.proofs.Laws.{not_told}
use Rattle.trees.proofs.trees_fit.Goals as goal

pub returns-then-not-content_fits : goal.returns-then-not-content_fits
returns-then-not-content_fits c = trees_not _ _ (omega (arith, c.requires.laid_out.layout_is.productions_is)) (not_told c.content_fits.ensures c.if-not-content_fits.true)

pub loop-q-preserved : goal.loop-q-preserved
loop-q-preserved c = below_more _ _ c.loop-q.invariant (told c.content_fits.ensures c.if-not-content_fits.false)

pub returns : goal.returns
returns c = trees_all _ _ (omega (arith, c.requires.laid_out.layout_is.productions_is)) c.loop-q.invariant
