use native.Mathlib.Omega.{arith}
use borrow.Author.Rules.{rules}
use Rattle.live.proofs.Live.at_place.Goals as goal

-- src/lib.rt:98:9
-- src/lib.rt:93:5
pub returns : goal.returns
returns c = rw c.at-next.ensures
