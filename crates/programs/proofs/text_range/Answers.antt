use native.Mathlib.Omega.{arith}
use Rattle.tells.specs.Tells.{fails}
use Rattle.tells.proofs.Laws.{beside}
use Rattle.programs.proofs.text_range.Goals as goal

-- The range is the one that the three bytes spell. Assumes nothing.
pub returns-then-s-i-lt4 : goal.returns-then-s-i-lt4
returns-then-s-i-lt4 c = fails (λ w. omega arith)

pub returns : goal.returns
returns c = beside (omega arith) (rw (c.from-low.ensures, c.from-high.ensures, c.from-n.ensures) at c.printable.ensures)
