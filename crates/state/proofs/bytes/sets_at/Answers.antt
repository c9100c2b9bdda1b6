use mathlib.Core.Path.{◌≡◌, ap, ◌∙◌}
use Prim.Native.Nat.{ℕ}
use Rattle.std.specs.Prelude.{min}
use native.Mathlib.Omega.{arith}
use Rattle.state.specs.Bounds.{most_sets, set_width}
use Rattle.state.specs.Changes.{bare_saved, bare_from}
use Rattle.state.specs.Bytes.{saved_at, gathered}
use Rattle.state.proofs.Gathered.{none_read, one_read, all_read}
use Rattle.state.proofs.bytes.sets_at.Goals as goal

pub loop-i-init : goal.loop-i-init
loop-i-init c = (omega arith, none_read bare_saved _ (saved_at _) set_width _ most_sets c.bare-none.ensures)

pub loop-i-preserved : goal.loop-i-preserved
loop-i-preserved c =
    let l = c.loop-i in (
      omega arith,
      one_read bare_saved _ (saved_at _) set_width _ most_sets l.i l.next _ (omega (arith, c.min-i-end.ensures)) l.invariant.0 c.saved_at.ensures l.invariant.1,
    )

pub returns : goal.returns
returns c =
    let l = c.loop-i in
    let a = c.args in
    let e : l.i ≡ min a.n most_sets = omega (arith, c.min-i-end.ensures) in
    l.invariant.1
    ∙ ap (λ (k : ℕ). bare_from bare_saved k (gathered (saved_at a.bytes.now) set_width a.at most_sets)) e
    ∙ all_read bare_saved (saved_at a.bytes.now) set_width a.at most_sets a.n
