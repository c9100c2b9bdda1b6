use Rattle.std.proofs.Common.{rules}
use Rattle.standing.specs.Standings.{fresh_standing}
use Rattle.standing.proofs.Laws.{at_first}
use Rattle.standing.proofs.Standing.fresh.Goals as goal

-- Field by field, with what the parts answer.
pub returns : goal.returns
unfolding fresh_standing
returns c = rw (at_first _ c.start-place.ensures, c.start-behind.ensures, c.fresh-state.ensures)
