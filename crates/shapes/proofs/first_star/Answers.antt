use mathlib.Core.Path.{sym, ◌∙◌}
use native.Mathlib.Omega.{arith}
use Rattle.shapes.proofs.Walks.{production_there, all_passed, stars_start, stars_other, stars_none, stars_found, stars_nowhere}
use Rattle.shapes.proofs.first_star.Goals as goal
use Rattle.shapes.proofs.first_star.Goals.{then-n-nonterminal_of+in_default, else-n-nonterminal_of}

pub loop-q-init : goal.loop-q-init
loop-q-init c = stars_start c.args.s.now c.args.n

pub returns-in-Some : goal.returns-in-Some
returns-in-Some c =
    stars_found c.args.s.now c.args.n c.loop-q.q _ (production_there c.args.s.now c.args.l c.requires.laid_out c.loop-q.q (omega arith))
    (c.if-n-nonterminal_of.true ∙ c.nonterminal_of.ensures.is) (rw c.in-Some.is at c.star_over.ensures) c.loop-q.invariant

pub loop-q-preserved : goal.loop-q-preserved
loop-q-preserved c =
    let b = production_there c.args.s.now c.args.l c.requires.laid_out c.loop-q.q (omega arith) in
    elim c.if-n-nonterminal_of.branch [
      | then-n-nonterminal_of+in_default w ↦ stars_none c.args.s.now c.args.n c.loop-q.q b (w.if-n-nonterminal_of.true ∙ c.nonterminal_of.ensures.is) (rw w.in_default.is at w.star_over.ensures) c.loop-q.invariant
      | else-n-nonterminal_of w ↦ stars_other c.args.s.now c.args.n c.loop-q.q b (λ e. w.if-n-nonterminal_of.false (e ∙ sym c.nonterminal_of.ensures.is)) c.loop-q.invariant
    ]

pub returns : goal.returns
returns c =
    stars_nowhere c.args.s.now c.args.n c.loop-q.q (all_passed c.args.s.now c.args.l c.requires.laid_out c.loop-q.q (omega arith)) c.loop-q.invariant
