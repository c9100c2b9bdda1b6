use Rattle.std.proofs.Common.{◌-◌, ◌+◌, sym, ◌∙◌, arith}
use Rattle.places.proofs.Laws.{uncut_short, uncut_seeks, uncut_found, uncut_back, uncut_none}
use Rattle.places.proofs.uncut.Goals as goal

pub returns-then-bytes-n : goal.returns-then-bytes-n
returns-then-bytes-n c = uncut_short _ c.args.n c.if-bytes-n.true

pub loop-passed-init : goal.loop-passed-init
loop-passed-init c = (omega arith, omega arith, uncut_seeks c.args.bytes.now c.args.n (omega arith))

pub returns-then-not-goes_on : goal.returns-then-not-goes_on
returns-then-not-goes_on c =
    let at = c.loop-passed in
    uncut_found _ _ (4 - at._passed) at.i at.invariant.0 at.invariant.1 (omega arith) at.invariant.2 (sym c.goes_on.ensures ∙ c.if-not-goes_on.true)

pub loop-passed-preserved : goal.loop-passed-preserved
loop-passed-preserved c =
    let at = c.loop-passed in
    let on = sym c.goes_on.ensures ∙ c.if-not-goes_on.false in
    (omega (arith, c.saturating_sub-i.ensures), at.invariant.1, uncut_back _ _ (4 - at._passed) (4 - (at._passed + 1)) at.i c.saturating_sub-i.result (omega arith) c.saturating_sub-i.ensures at.invariant.2 on)

pub returns : goal.returns
returns c =
    let at = c.loop-passed in
    uncut_none _ _ (4 - at._passed) at.i at.invariant.1 (omega arith) at.invariant.2

pub bounds-bytes-i : goal.bounds-bytes-i
bounds-bytes-i c = omega (arith, c.loop-passed.invariant.0, c.loop-passed.invariant.1)
