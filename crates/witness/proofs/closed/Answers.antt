use mathlib.Core.Path.{refl}
use Rattle.witness.proofs.Operations.{closed_by}
use borrow.Author.Rules.{rules}
use Rattle.witness.proofs.closed.Goals as goal

-- `closed`: a bracket behind each string.
-- Assumes nothing.
-- src/lib.rt:135:21
-- src/lib.rt:135:21
-- src/lib.rt:135:9
-- src/lib.rt:138:9
-- src/lib.rt:139:9
-- src/lib.rt:131:1
pub returns : goal.returns
returns c = closed_by _ _ _ _ c.bracket-c.ensures refl c.joined-first.ensures c.joined-second.ensures
