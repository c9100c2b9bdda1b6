use mathlib.Core.Path.{refl, sym, ◌∙◌}
use native.Mathlib.Omega.{arith}
use Rattle.runs.specs.Machine.{most}
use Rattle.state.specs.Bounds.{frame_width}
use Rattle.state.specs.Bytes.{frame_at}
use Rattle.state.proofs.Gathered.{fill_all, fill_more, fill_none}
use Rattle.state.proofs.bytes.frames_at.Goals as goal

pub loop-i-init : goal.loop-i-init
loop-i-init c = (omega arith, fill_all (frame_at _) frame_width _ most _ refl)

pub loop-i-preserved : goal.loop-i-preserved
loop-i-preserved c = let l = c.loop-i in (
  omega arith,
  rw c.frame_at.ensures (fill_more (frame_at _) frame_width _ most l.i _ (omega arith) ∙ l.invariant.1),
)

pub returns : goal.returns
returns c = sym (fill_none (frame_at _) frame_width _ most c.loop-i.i _ (omega arith)) ∙ c.loop-i.invariant.1
