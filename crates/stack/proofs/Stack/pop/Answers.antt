use mathlib.Core.Path.{refl}
use native.Mathlib.Omega.{arith}
use Rattle.stack.specs.Stacked.{off, as_was}
use Rattle.stack.proofs.Stack.pop.Goals as goal

-- The run's own pop, where no more elements are open than may be.
pub returns-then-live-gt-DEPTH : goal.returns-then-live-gt-DEPTH
returns-then-live-gt-DEPTH c = as_was c.if-live-gt-DEPTH.true refl

pub returns : goal.returns
returns c = off (omega arith) c.pop-left.ensures refl
