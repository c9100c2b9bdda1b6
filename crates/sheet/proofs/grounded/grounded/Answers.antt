use mathlib.Core.Path.{sym, ◌∙◌}
use native.Mathlib.Omega.{arith}
use borrow.Author.Count.{below_more}
use Rattle.tells.specs.Tells.{holds, fails}
use Rattle.tells.proofs.Laws.{told, not_told}
use Rattle.sheet.proofs.grounded.grounded.Goals.{then-kind_of-eq1+else-not-produced-2, else-kind_of-eq1}
use Rattle.sheet.proofs.grounded.grounded.Goals as goal

pub returns-then-not-produced : goal.returns-then-not-produced
returns-then-not-produced c =
    let p = c.requires in
    fails (λ h. not_told (rw p.layout_is.start_is.is at c.produced.ensures) c.if-not-produced.true h.start_has)

pub returns-then-not-produced-2 : goal.returns-then-not-produced-2
returns-then-not-produced-2 c =
    let p = c.requires in
    let i = c.loop-i.i in
    fails
    (λ h. not_told (rw c.argument_of.ensures.is at c.produced-then-kind_of-eq1.ensures) c.if-not-produced-2.true
    (h.atoms_have i (omega (arith, p.layout_is.nodes_is.is, c.loop-i-test.true)) (sym c.kind_of.ensures.is ∙ c.if-kind_of-eq1.true)))

pub loop-i-preserved : goal.loop-i-preserved
loop-i-preserved c =
    below_more _ _ c.loop-i.invariant
    (λ e. elim c.if-kind_of-eq1.branch [
      | then-kind_of-eq1+else-not-produced-2 w ↦ told (rw w.argument_of.ensures.is at w.produced-then-kind_of-eq1.ensures) w.if-not-produced-2.false
      | else-kind_of-eq1 w ↦ absurd (w.if-kind_of-eq1.false (c.kind_of.ensures.is ∙ e))
    ])

pub returns : goal.returns
returns c =
    let p = c.requires in
    holds
    (record {
      start_has = told (rw p.layout_is.start_is.is at c.produced.ensures) c.if-not-produced.false;
      atoms_have = λ k z. c.loop-i.invariant k (omega (arith, z, p.layout_is.nodes_is.is, c.loop-i-test.false));
    })
