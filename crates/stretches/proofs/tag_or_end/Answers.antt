use native.Mathlib.Omega.{arith}
use lib.ListN.{length}
use borrow.Author.Tests.{lt-ltb, le-ltb}
use Rattle.stretches.proofs.tag_or_end.Goals as goal

-- By the test for the part's end.
pub returns-then-at-part : goal.returns-then-at-part
returns-then-at-part c = rw (lt-ltb _ _ c.if-at-part.true)

pub returns : goal.returns
returns c = rw (le-ltb c.args.at (length c.args.part.now) (omega (arith, c.if-at-part.false)))
