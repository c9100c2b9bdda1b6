use mathlib.Core.Path.{refl}
use native.Mathlib.Omega.{arith}
use lib.ListN.{take}
use Rattle.tells.specs.Tells.{holds, fails}
use Rattle.state.specs.Meaning.{none}
use Rattle.state.proofs.Laws.{all_more, all_whole}
use Rattle.fit.specs.Fit.{SetFits}
use Rattle.fit.proofs.Lists.{all_at}
use Rattle.tells.proofs.Laws.{told}
use Rattle.tells.proofs.Laws.{not_told}
use Rattle.fit.proofs.sets_fit.Goals as goal

pub loop-set-init : goal.loop-set-init
loop-set-init c = none

pub returns-then-not-values_fit : goal.returns-then-not-values_fit
returns-then-not-values_fit c =
    fails (λ a. not_told c.values_fit.ensures c.if-not-values_fit.true (all_at (take c.args.n c.args.sets) c.loop-set.set-index _ (omega arith) a))

pub loop-set-preserved : goal.loop-set-preserved
loop-set-preserved c = all_more SetFits _ c.loop-set.set-index _ (omega arith) c.loop-set.invariant (told c.values_fit.ensures c.if-not-values_fit.false)

pub returns : goal.returns
returns c = holds (all_whole SetFits _ _ c.loop-set.set-index refl (omega arith) c.loop-set.invariant)
