use mathlib.Core.Path.{refl}
use Prim.Native.Nat.{◌<◌}
use native.Mathlib.Omega.{arith}
use Rattle.std.proofs.lemmas.Bool.{not-true, not-false}
use Rattle.state.specs.Bytes.{state_from}
use Rattle.fit.proofs.Frames.{left_all, left_none, left_fails, left_more, told_in, frames_in}
use Rattle.fit.proofs.frames_fit.Goals as goal

pub loop-i-init : goal.loop-i-init
loop-i-init c =
    let b = c.args.state.now in
    left_all _ (state_from b).frames c.args.n (omega (arith, frames_in b, c.requires.n_le_most)) _ c.requires.laid_out.layout_is.start_is.is

pub returns-then-not-fitted : goal.returns-then-not-fitted
returns-then-not-fitted c =
    let l = c.loop-i in
    let b = c.args.state.now in
    let k : l.i < c.args.n = omega arith in
    left_fails _ (state_from b).frames c.args.n (omega (arith, frames_in b, c.requires.n_le_most)) _ l.i l.invariant _ k _
    (told_in b l.i (omega (arith, k, c.requires.n_le_most)) refl c.frame_at-f.ensures c.frame_fits-fitted.ensures) (not-true _ c.if-not-fitted.true)

pub loop-i-preserved : goal.loop-i-preserved
loop-i-preserved c =
    let l = c.loop-i in
    let b = c.args.state.now in
    let k : l.i < c.args.n = omega arith in
    left_more _ (state_from b).frames c.args.n (omega (arith, frames_in b, c.requires.n_le_most)) _ l.i l.invariant _ k _
    (told_in b l.i (omega (arith, k, c.requires.n_le_most)) refl c.frame_at-f.ensures c.frame_fits-fitted.ensures) (not-false _ c.if-not-fitted.false)

pub returns : goal.returns
returns c =
    let l = c.loop-i in
    let b = c.args.state.now in
    left_none _ (state_from b).frames c.args.n (omega (arith, frames_in b, c.requires.n_le_most)) _ l.i l.invariant (omega arith)
