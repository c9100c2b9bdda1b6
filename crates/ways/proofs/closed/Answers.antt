use native.Mathlib.Omega.{arith}
use Rattle.ways.proofs.Holds.{bracketed}
use Rattle.ways.proofs.closed.Goals as goal

-- `closed`: the bracket's byte is pushed.
-- Assumes nothing.
pub shape_of-line : goal.shape_of-line
shape_of-line c = omega (arith, c.push.ensures.kept.long)

pub returns : goal.returns
returns c = bracketed _ _ _ _ _ _ _ (omega arith) c.push.ensures
