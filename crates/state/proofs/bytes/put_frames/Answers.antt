use mathlib.Core.Path.{◌≡◌, refl, ◌∙◌}
use Rattle.runs.specs.Machine.{most}
use Rattle.state.specs.Bounds.{frame_width}
use Rattle.state.proofs.Written.{wrote_start, wrote_more, wrote_all}
use native.Mathlib.Omega.{arith}
use lib.ListN.{length}
use Rattle.state.specs.Bytes.{frame_bytes}
use Rattle.state.proofs.Laws.{length_mapped}
use borrow.Author.Rules.{rules}
use Rattle.state.proofs.bytes.put_frames.Goals as goal

pub loop-f-init : goal.loop-f-init
loop-f-init c = (refl, wrote_start frame_bytes frame_width c.args.frames _ _)

pub loop-f-preserved : goal.loop-f-preserved
loop-f-preserved c = let n : length c.args.frames ≡ most = search (length_mapped, rules) in (
  c.put_frame-next.auto.memory ∙ c.loop-f.invariant.0,
  wrote_more frame_bytes frame_width _ c.loop-f.f-index _ (omega arith) c.loop-f.invariant.1 c.put_frame-next.ensures,
)

pub shape_of-memory : goal.shape_of-memory
shape_of-memory c = c.loop-f.invariant.0

pub returns : goal.returns
returns c = let n : length c.args.frames ≡ most = search (length_mapped, rules) in
    wrote_all frame_bytes frame_width _ most c.loop-f.f-index n (omega arith) c.loop-f.invariant.1

pub put_frame-next-requires : goal.put_frame-next-requires
put_frame-next-requires c = let n : length c.args.frames ≡ most = search (length_mapped, rules) in omega (arith, c.loop-f.invariant.1.next, c.requires)
