use Rattle.declarations.proofs.Laws.{over_two_lem}
use borrow.Author.Rules.{rules}
use Rattle.declarations.proofs.over_two.Goals as goal

-- `over_two`: the operator's node in front of both, one deeper. Assumes nothing.
pub returns : goal.returns
returns c =
    over_two_lem _ _ _ _ _ _ _ c.joined.ensures c.leaf.ensures c.joined-2.ensures c.deeper.ensures
