use borrow.Author.Tests.{lt-ltb, le-ltb}
use Rattle.tokens.proofs.cut.Goals as goal

-- By the test that `cut_at` makes.
pub returns-then-len-lt32 : goal.returns-then-len-lt32
returns-then-len-lt32 c = simp (lt-ltb _ _ c.if-len-lt32.true)

pub returns-else-len-lt32 : goal.returns-else-len-lt32
returns-else-len-lt32 c = simp (le-ltb _ _ c.if-len-lt32.false)
