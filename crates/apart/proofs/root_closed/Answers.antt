use borrow.Author.Tests.{eq-eqb, ne_eqb}
use Rattle.apart.proofs.root_closed.Goals as goal

-- By the test for an open element.
pub returns-then-depth-eq0 : goal.returns-then-depth-eq0
returns-then-depth-eq0 c = rw (eq-eqb _ 0 c.if-depth-eq0.true)

pub returns-else-depth-eq0 : goal.returns-else-depth-eq0
returns-else-depth-eq0 c = rw (ne_eqb _ 0 c.if-depth-eq0.false)
