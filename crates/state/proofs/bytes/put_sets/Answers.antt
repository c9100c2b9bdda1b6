use mathlib.Core.Path.{refl, ◌∙◌}
use Rattle.state.specs.Bounds.{set_width}
use Rattle.state.proofs.Written.{wrote_start, wrote_more, wrote_all}
use native.Mathlib.Omega.{arith}
use Rattle.state.specs.Bytes.{saved_bytes}
use Rattle.state.proofs.bytes.put_sets.Goals as goal

pub loop-kept-init : goal.loop-kept-init
loop-kept-init c = (refl, wrote_start saved_bytes set_width c.args.sets.now _ _)

pub loop-kept-preserved : goal.loop-kept-preserved
loop-kept-preserved c = (
  c.put_saved-next.auto.memory ∙ c.loop-kept.invariant.0,
  wrote_more saved_bytes set_width _ c.loop-kept.kept-index _ (omega arith) c.loop-kept.invariant.1 c.put_saved-next.ensures,
)

pub shape_of-memory : goal.shape_of-memory
shape_of-memory c = c.loop-kept.invariant.0

pub returns : goal.returns
returns c = wrote_all saved_bytes set_width _ _ c.loop-kept.kept-index refl (omega arith) c.loop-kept.invariant.1
