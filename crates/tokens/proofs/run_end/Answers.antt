use native.Mathlib.Omega.{arith}
use mathlib.Core.Path.{◌≡◌, sym, ◌∙◌}
use lib.ListN.{length}
use Rattle.tokens.proofs.Runs
use Rattle.tokens.proofs.run_end.Goals as goal

pub loop-i-init : goal.loop-i-init
loop-i-init g c = λ p h. Runs.going_none p _ _ c.requires.from_le_length

pub returns-then-not-passes : goal.returns-then-not-passes
returns-then-not-passes g c = λ p h. Runs.going_stop p _ _ _ (c.loop-i.invariant p h) (omega arith) (sym (h _ _ (c.type_inv.f c.loop-i.i).fits c.passes.ensures) ∙ c.if-not-passes.true)

pub loop-i-preserved : goal.loop-i-preserved
loop-i-preserved g c = λ p h. Runs.going_more p _ _ _ (c.loop-i.invariant p h) (omega arith) (sym (h _ _ (c.type_inv.f c.loop-i.i).fits c.passes.ensures) ∙ c.if-not-passes.false)

pub returns : goal.returns
returns g c =
    λ p h.
    let k = c.loop-i.invariant p h in
    let e : c.loop-i.i ≡ length c.args.f.now = omega (arith, k.within, c.loop-i-test.false) in
    rw e at (Runs.going_end p _ _ _ k (omega arith))
