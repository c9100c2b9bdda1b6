use mathlib.Core.Path.{◌≡◌, refl, sym, ◌∙◌}
use Prim.Native.Nat.{◌+◌}
use native.Mathlib.Omega.{arith}
use Rattle.runs.specs.Visits.{attributes}
use Rattle.layout.specs.Layout.{byte_at}
use Rattle.state.proofs.Gathered.{fill_all, fill_more, fill_none}
use Rattle.state.proofs.bytes.values_at.Goals as goal

pub loop-i-init : goal.loop-i-init
loop-i-init c =
    let a = c.args in
    let e : a.at + 0 ≡ a.at = omega arith in
    rw e (fill_all (byte_at a.bytes.now) 1 a.at attributes _ refl)

pub loop-i-preserved : goal.loop-i-preserved
loop-i-preserved c =
    let l = c.loop-i in
    let a = c.args in
    let e : a.at + (l.i + 1) ≡ a.at + l.i + 1 = omega arith in
    rw (c.byte_at.ensures, e) (fill_more (byte_at a.bytes.now) 1 (a.at + l.i) attributes l.i l.values (omega arith) ∙ l.invariant)

pub returns : goal.returns
returns c =
    let l = c.loop-i in
    let a = c.args in
    sym (fill_none (byte_at a.bytes.now) 1 (a.at + l.i) attributes l.i l.values (omega arith)) ∙ l.invariant
