use borrow.Author.Tests.{eq-eqb, ne_eqb}
use borrow.Author.Rules.{rules}
use Rattle.pages.proofs.zeros_of.Goals as goal

-- Each answer by the law that it names. Assumes nothing.
pub returns-then-m-eq1 : goal.returns-then-m-eq1
returns-then-m-eq1 c = record { value = rw (eq-eqb _ 1 c.if-m-eq1.true); upper_bound = search rules }

pub returns : goal.returns
returns c = record { value = rw (ne_eqb _ 1 c.if-m-eq1.false); upper_bound = search rules }
