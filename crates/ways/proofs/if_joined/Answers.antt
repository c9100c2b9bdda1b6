use Rattle.ways.proofs.Outs.{joined_through, not_joined}
use Rattle.ways.proofs.if_joined.Goals as goal

-- `if_joined`: a concatenation goes on through its second part, a union does not.
-- Assumes nothing.
pub returns-then-kind-eq3 : goal.returns-then-kind-eq3
returns-then-kind-eq3 c = joined_through _ _ _ _ _ c.if-kind-eq3.true _ _ c.through.ensures

pub returns : goal.returns
returns c = not_joined _ _ _ _ _ c.if-kind-eq3.false
