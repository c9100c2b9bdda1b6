use mathlib.Core.Path.{refl}
use Rattle.witness.proofs.Operations.{opened_by}
use borrow.Author.Rules.{rules}
use Rattle.witness.proofs.opened.Goals as goal

-- `opened`: a bracket before each string.
-- Assumes nothing.
-- src/lib.rt:119:21
-- src/lib.rt:119:9
-- src/lib.rt:122:9
-- src/lib.rt:123:9
-- src/lib.rt:115:1
pub returns : goal.returns
returns c = opened_by _ _ _ _ c.bracket-c.ensures refl c.joined-first.ensures c.joined-second.ensures
