use Rattle.std.proofs.Common.{rules}
use Rattle.standing.proofs.is_refused.Goals as goal

pub returns : goal.returns
returns c = rw c.is_broken.ensures
