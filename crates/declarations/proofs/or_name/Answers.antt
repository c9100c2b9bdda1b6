use Rattle.declarations.proofs.Laws.{or_name_lem}
use borrow.Author.Rules.{rules}
use Rattle.declarations.proofs.or_name.Goals as goal

-- `or_name`: the union's node in front, the name's behind. Assumes nothing.
pub returns : goal.returns
returns c = or_name_lem _ _ _ _ c.name_node.ensures c.over_two.ensures
