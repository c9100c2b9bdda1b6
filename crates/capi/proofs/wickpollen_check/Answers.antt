use borrow.Author.Rules.{rules}
use Rattle.capi.proofs.Laws.{few_faults}
use Rattle.capi.proofs.wickpollen_check.Goals as goal

-- The checker's answer, packed: its count is small enough.
pub pack-requires : goal.pack-requires
pack-requires c = few_faults c.check-r.ensures

pub returns : goal.returns
returns c = record { answer = c.check-r.result; as_checked = c.check-r.ensures; packed = c.pack.ensures }
