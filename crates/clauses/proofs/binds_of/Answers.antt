use native.Mathlib.Omega.{arith}
use Rattle.clauses.proofs.Laws.{binds_or, binds_and, binds_most}
use Rattle.clauses.proofs.binds_of.Goals as goal

-- Each return cites what the byte is.
pub returns-then-k-eq3 : goal.returns-then-k-eq3
returns-then-k-eq3 c = (binds_or c.args.k c.if-k-eq3.true, omega arith)

pub returns-then-k-eq2 : goal.returns-then-k-eq2
returns-then-k-eq2 c = (binds_and c.args.k c.if-k-eq2.true, omega arith)

pub returns : goal.returns
returns c = (binds_most c.args.k c.if-k-eq3.false c.if-k-eq2.false, omega arith)
