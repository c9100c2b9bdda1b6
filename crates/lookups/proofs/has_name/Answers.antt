use Rattle.lookups.proofs.Names.{name_too_long, name_told}
use Rattle.lookups.proofs.has_name.Goals as goal

-- The bytes behind a tag's first, as many as it says, are its name.
-- Assumes nothing.
pub returns-then-n-gt15 : goal.returns-then-n-gt15
returns-then-n-gt15 c =
    let a = c.args in
    name_too_long a.tag.now a.name.now c.byte_at-n.result c.byte_at-n.ensures.is c.if-n-gt15.true

pub returns : goal.returns
returns c =
    let a = c.args in
    let n = c.byte_at-n in
    name_told a.tag.now a.name.now n.result n.ensures.is c.same_name.result c.same_name.ensures
