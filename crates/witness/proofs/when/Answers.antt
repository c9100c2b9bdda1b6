use Rattle.witness.proofs.Operations.{when_there, when_not}
use borrow.Author.Rules.{rules}
use Rattle.witness.proofs.when.Goals as goal

-- `when`: the empty string, or none.
-- Assumes nothing.
-- src/lib.rt:76:9
-- src/lib.rt:76:9
pub returns-then-there : goal.returns-then-there
returns-then-there c = when_there _ _ c.if-there.true c.just_empty.ensures

-- src/lib.rt:78:5
-- src/lib.rt:72:1
pub returns : goal.returns
returns c = when_not _ _ c.if-there.false c.nothing.ensures
