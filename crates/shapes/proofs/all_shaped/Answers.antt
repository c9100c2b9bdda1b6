use native.Mathlib.Omega.{arith}
use borrow.Author.Count.{below_more}
use Rattle.shapes.proofs.Walks.{production_there, all_passed}
use Rattle.shapes.proofs.Telling.{all_told, not_all_told, told_so}
use Rattle.shapes.proofs.all_shaped.Goals as goal

pub loop-q-init : goal.loop-q-init
loop-q-init c = λ k z. absurd (omega arith)

pub returns-then-not-shaped_at : goal.returns-then-not-shaped_at
returns-then-not-shaped_at c =
    not_all_told c.args.s.now c.args.start c.args.n c.args.t c.args.r c.loop-q.q (production_there c.args.s.now c.args.l c.requires.laid_out c.loop-q.q (omega arith))
    c.shaped_at.ensures c.if-not-shaped_at.true

pub loop-q-preserved : goal.loop-q-preserved
loop-q-preserved c =
    below_more _ _ c.loop-q.invariant (told_so c.args.s.now c.args.start c.args.n c.args.t c.args.r c.shaped_at.ensures c.if-not-shaped_at.false)

pub returns : goal.returns
returns c =
    all_told c.args.s.now c.args.start c.args.n c.args.t c.args.r c.loop-q.q (all_passed c.args.s.now c.args.l c.requires.laid_out c.loop-q.q (omega arith)) c.loop-q.invariant
