use Rattle.declarations.proofs.Laws.{starred_is}
use borrow.Author.Rules.{rules}
use Rattle.declarations.proofs.starred.Goals as goal

-- `starred`: the star's node in front, one deeper. Assumes nothing.
pub returns : goal.returns
returns c =
    starred_is _ _ _ _ c.leaf.ensures c.joined.ensures c.deeper.ensures
