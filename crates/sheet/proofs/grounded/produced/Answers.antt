use mathlib.Core.Path.{sym, ◌∙◌}
use native.Mathlib.Omega.{arith}
use borrow.Author.Count.{below_more}
use Rattle.tells.specs.Tells.{holds, fails}
use Rattle.sheet.proofs.grounded.produced.Goals as goal

pub returns-then-nonterminal_of-n : goal.returns-then-nonterminal_of-n
returns-then-nonterminal_of-n c =
    let p = c.requires in
    let q = c.loop-q.q in
    holds (record { number = q; there = omega (arith, p.layout_is.productions_is.is, c.loop-q-test.true); its = sym c.nonterminal_of.ensures.is ∙ c.if-nonterminal_of-n.true })

pub loop-q-preserved : goal.loop-q-preserved
loop-q-preserved c = below_more _ _ c.loop-q.invariant (λ e. c.if-nonterminal_of-n.false (c.nonterminal_of.ensures.is ∙ e))

pub returns : goal.returns
returns c =
    let p = c.requires in
    fails (λ h. c.loop-q.invariant h.number (omega (arith, h.there, p.layout_is.productions_is.is, c.loop-q-test.false)) h.its)
