use Rattle.declarations.proofs.Laws.{behind_nothing, behind_some}
use borrow.Author.Rules.{rules}
use Rattle.declarations.proofs.behind.Goals as goal

-- `behind`: by what stands to the left. Assumes nothing.
pub returns-then-kind-eq0 : goal.returns-then-kind-eq0
returns-then-kind-eq0 c =
    behind_nothing _ _ _ c.if-kind-eq0.true

pub returns : goal.returns
returns c =
    behind_some _ _ _ _ c.if-kind-eq0.false c.over_two.ensures
