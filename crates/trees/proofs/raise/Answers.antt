use Rattle.trees.proofs.Counts.{raise_none, raise_first, raise_second, raise_many}
use Rattle.trees.proofs.raise.Goals as goal

-- `raise` goes by what is added: one law for each of its four ways.
-- Assumes nothing.
pub returns-in-None : goal.returns-in-None
returns-in-None c =
    let a = c.args in
    raise_none a.sum a.alike a.n c.bit-hit.result _ c.bit-hit.ensures c.times-more.ensures c.in-None.is

pub returns-then-sum-eq0 : goal.returns-then-sum-eq0
returns-then-sum-eq0 c =
    let a = c.args in
    raise_first a.sum a.alike a.n c.bit-hit.result _ c.bit-hit.ensures c.times-more.ensures c.in-One.is c.if-sum-eq0.true

pub returns-else-sum-eq0 : goal.returns-else-sum-eq0
returns-else-sum-eq0 c =
    let a = c.args in
    raise_second a.sum a.alike a.n c.bit-hit.result _ c.bit-hit.ensures c.times-more.ensures c.in-One.is c.if-sum-eq0.false

pub returns-in-Many : goal.returns-in-Many
returns-in-Many c =
    let a = c.args in
    raise_many a.sum a.alike a.n c.bit-hit.result _ c.bit-hit.ensures c.times-more.ensures c.in-Many.is
