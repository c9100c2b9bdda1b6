use Rattle.turns.proofs.Laws.{goes_as}
use Rattle.turns.specs.Turned.{refused, passes}
use Rattle.turns.proofs.Stand.other_token.Goals as goal

-- The token is taken, or refused and all is as it was.
-- Assumes nothing.
pub take-stepped-requires : goal.take-stepped-requires
take-stepped-requires c = record { laid_out = c.requires.laid_out; ready_at = c.requires.may_take.ready; event_in = c.requires.may_take.event; at_in_bounds = c.requires.put_in_bounds; count_le_most_visits = c.requires.may_take.count }

pub returns-then-stepped-ne0 : goal.returns-then-stepped-ne0
returns-then-stepped-ne0 c = record { taking = c.take-stepped.result; takes = c.take-stepped.ensures; ends = refused c.if-stepped-ne0.true c.stops.ensures }

pub returns : goal.returns
returns c = record { taking = c.take-stepped.result; takes = c.take-stepped.ensures; ends = passes c.if-stepped-ne0.false (goes_as c.goes.ensures c.between-left.ensures) }
