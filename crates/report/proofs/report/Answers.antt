use Rattle.std.proofs.Common.{arith, rules}
use Rattle.report.proofs.Verdicts.{verdict_reported}
use Rattle.report.proofs.report.Goals as goal

-- The list that is lent holds every fault, so the number is never 10.
pub large_buffer-list-requires : goal.large_buffer-list-requires
large_buffer-list-requires c = search rules

pub slice_bounds-check-end : goal.slice_bounds-check-end
slice_bounds-check-end c = search rules

pub check-r-requires : goal.check-r-requires
check-r-requires c = search rules

pub slice_bounds-tell-end : goal.slice_bounds-tell-end
slice_bounds-tell-end c = search rules

pub tell-requires : goal.tell-requires
tell-requires c = search rules

pub returns : goal.returns
returns c = verdict_reported c.check-r.ensures (omega (arith, c.large_buffer-list.ensures))
