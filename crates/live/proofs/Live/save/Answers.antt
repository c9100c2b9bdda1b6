use native.Mathlib.Omega.{arith}
use borrow.Author.Rules.{rules}
use Rattle.live.proofs.Live.save.Goals as goal

-- src/lib.rt:74:9
-- src/lib.rt:69:5
pub returns : goal.returns
returns c = rw c.keep-next.ensures
