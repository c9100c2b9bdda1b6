use borrow.Author.Rules.{rules}
use native.Mathlib.Omega.{arith}
use Rattle.boughs.proofs.Laws.{binds_union, binds_concatenation, binds_star, binds_most}
use Rattle.boughs.proofs.binds_of.Goals as goal

-- By the kind.
pub returns-then-kind-eq4 : goal.returns-then-kind-eq4
returns-then-kind-eq4 c = (binds_union _ c.if-kind-eq4.true, omega arith)

pub returns-then-kind-eq3 : goal.returns-then-kind-eq3
returns-then-kind-eq3 c = (binds_concatenation _ c.if-kind-eq3.true, omega arith)

pub returns-then-kind-eq5 : goal.returns-then-kind-eq5
returns-then-kind-eq5 c = (binds_star _ c.if-kind-eq5.true, omega arith)

pub returns : goal.returns
returns c = (binds_most _ c.if-kind-eq4.false c.if-kind-eq3.false c.if-kind-eq5.false, omega arith)
