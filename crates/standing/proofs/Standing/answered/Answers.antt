use Rattle.std.proofs.Common.{rules}
use Rattle.standing.proofs.Standing.answered.Goals as goal

pub returns : goal.returns
returns c = rw c.wrapping_add_u64.ensures.value
