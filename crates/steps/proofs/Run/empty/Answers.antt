use native.Mathlib.Omega.{arith}
use Rattle.steps.proofs.Tokens.{ready_on, empty_stopped, empty_ended}
use Rattle.steps.proofs.Run.empty.Goals as goal

-- The start is refused, or the end sets out from where the start came to.
-- Assumes nothing.
pub start-begun-requires : goal.start-begun-requires
start-begun-requires c =
    record { laid_out = c.requires.laid_out; ready_at = c.requires.ready_at; at_bound = omega (arith, c.requires.at_bound); count_bound = omega (arith, c.requires.count_le_most_visits) }

pub returns-then-begun-ne0 : goal.returns-then-begun-ne0
returns-then-begun-ne0 c =
    record { stepped = empty_stopped c.args.t c.start-begun.ensures.stepped c.if-begun-ne0.true; below = c.start-begun.ensures.below; long = c.start-begun.ensures.long }

pub end-requires : goal.end-requires
end-requires c =
    record { laid_out = c.requires.laid_out; ready_at = record { ready = ready_on c.start-begun.ensures.stepped c.requires.ready_at.ready tt c.if-begun-ne0.false; long = omega (arith, c.requires.ready_at.long, c.start-begun.ensures.long) }; at_bound = omega (arith, c.requires.at_bound, c.start-begun.ensures.stepped.reach); count_bound = omega (arith, c.requires.count_le_most_visits, c.start-begun.ensures.stepped.count) }

pub returns : goal.returns
returns c =
    record { stepped = empty_ended c.args.t _ _ c.start-begun.ensures.stepped c.if-begun-ne0.false c.end.ensures; below = c.start-begun.ensures.below; long = c.start-begun.ensures.long }
