use native.Mathlib.Nat.{add-zero}
use Rattle.state.proofs.Written.{put_number_lem, number_wide, number_done}
use mathlib.Core.Path.{refl, sym, ◌∙◌}
use native.Mathlib.Omega.{arith}
use Rattle.state.proofs.bytes.put_number.Goals as goal

pub loop-i-init : goal.loop-i-init
loop-i-init c = (refl, rw add-zero)

pub loop-i-preserved : goal.loop-i-preserved
loop-i-preserved c = (
  c.put_byte.auto.memory ∙ c.loop-i.invariant.0,
  rw c.put_byte.ensures (put_number_lem _ _ _ _ (omega arith) ∙ c.loop-i.invariant.1),
)

pub shape_of-memory : goal.shape_of-memory
shape_of-memory c = c.loop-i.invariant.0

pub returns : goal.returns
returns c = record { next = refl; wide = number_wide 8 _; left = sym (number_done _ _ _ _ (omega arith)) ∙ c.loop-i.invariant.1 }
