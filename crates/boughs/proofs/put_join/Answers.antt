use borrow.Author.Rules.{rules}
use Rattle.output.proofs.Writing.{same_bytes}
use Rattle.boughs.proofs.Laws.{join_dot, join_bar}
use Rattle.boughs.proofs.put_join.Goals as goal

-- By the kind.
pub returns-then-kind-eq3 : goal.returns-then-kind-eq3
returns-then-kind-eq3 c = same_bytes _ _ _ _ _ _ _ (join_dot _ c.if-kind-eq3.true) c.put_bytes.ensures

pub returns : goal.returns
returns c = same_bytes _ _ _ _ _ _ _ (join_bar _ c.if-kind-eq3.false) c.put_bytes-2.ensures
