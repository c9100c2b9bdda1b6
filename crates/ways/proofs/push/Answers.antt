use mathlib.Core.Path.{refl}
use Rattle.ways.proofs.Holds.{pushed_one, pushed_past}
use Rattle.ways.proofs.push.Goals as goal

-- `push`: the byte goes after the others, where there is room.
-- Assumes nothing.
pub returns-then-n-line : goal.returns-then-n-line
returns-then-n-line c = pushed_one _ _ _ c.if-n-line.true _ _ refl refl

pub returns : goal.returns
returns c = pushed_past _ _ _ c.if-n-line.false _ refl
