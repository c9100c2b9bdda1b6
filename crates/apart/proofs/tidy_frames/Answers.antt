use mathlib.Core.Path.{refl, ◌∙◌}
use native.Mathlib.Omega.{arith}
use Rattle.state.specs.Bounds.{frame_width, head_width}
use Rattle.state.specs.Bytes.{gathered, used_at, frame_bytes}
use Rattle.state.proofs.Gathered.{length_gathered}
use Rattle.state.proofs.Written.{wrote_start, wrote_all}
use Rattle.apart.proofs.Parting.{tidy_more}
use Rattle.apart.proofs.tidy_frames.Goals as goal

pub loop-init : goal.loop-init
loop-init c =
    let a = c.args in
    (refl, wrote_start frame_bytes frame_width (gathered (used_at a.bytes.now) frame_width head_width a.n) a.bytes.now head_width)

pub loop-preserved : goal.loop-preserved
loop-preserved c =
    let l = c.loop in
    let a = c.args in
    (c.put_frame-next.auto.memory ∙ l.invariant.0, tidy_more a.n l.counter c.used_at-f.result (omega arith) c.used_at-f.ensures l.invariant.1 c.put_frame-next.ensures)

pub returns : goal.returns
returns c =
    let l = c.loop in
    let a = c.args in
    wrote_all frame_bytes frame_width (gathered (used_at a.bytes.now) frame_width head_width a.n) a.n l.counter (length_gathered (used_at a.bytes.now) frame_width head_width a.n)
    (omega arith) l.invariant.1

pub shape_of-bytes : goal.shape_of-bytes
shape_of-bytes c = c.loop.invariant.0
