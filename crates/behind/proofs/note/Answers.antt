use Rattle.std.proofs.Common.{arith}
use Rattle.behind.proofs.LineLaws.{closed, opened, full, unchanged}
use Rattle.behind.proofs.note.Goals as goal

-- By the kind.
pub returns-then-depth-gt0 : goal.returns-then-depth-gt0
returns-then-depth-gt0 c = let args = c.args in closed args.depth args.lines.now args.kind args.line _ c.if-kind-eq-CLOSES.true (omega arith)

pub returns-then-kind-eq-CLOSES : goal.returns-then-kind-eq-CLOSES
returns-then-kind-eq-CLOSES c = let args = c.args in closed args.depth args.lines.now args.kind args.line _ c.if-kind-eq-CLOSES.true (omega arith)

pub returns-then-depth-lines : goal.returns-then-depth-lines
returns-then-depth-lines c = let args = c.args in opened args.depth args.lines.now args.kind args.line c.if-kind-eq-OPENS.true c.if-depth-lines.true

pub returns-else-depth-lines : goal.returns-else-depth-lines
returns-else-depth-lines c = let args = c.args in full args.depth args.lines.now args.kind args.line c.if-kind-eq-OPENS.true c.if-depth-lines.false

pub returns-else-kind-eq-OPENS : goal.returns-else-kind-eq-OPENS
returns-else-kind-eq-OPENS c = let args = c.args in unchanged args.depth args.lines.now args.kind args.line c.if-kind-eq-CLOSES.false c.if-kind-eq-OPENS.false
