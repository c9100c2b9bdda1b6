use borrow.Author.Tests.{lt-ltb, le-ltb}
use Rattle.state.specs.Changes.{keeping}
use Rattle.state.proofs.Frame.keep.Goals as goal

-- By the test for room.
pub returns-then-k-lt-SETS : goal.returns-then-k-lt-SETS
unfolding keeping
returns-then-k-lt-SETS c = rw (lt-ltb _ _ c.if-k-lt-SETS.true)

pub returns-else-k-lt-SETS : goal.returns-else-k-lt-SETS
unfolding keeping
returns-else-k-lt-SETS c = rw (le-ltb _ _ c.if-k-lt-SETS.false)
