use mathlib.Core.Path.{refl}
use Rattle.turns.specs.Turned.{stands, breaks}
use Rattle.turns.proofs.Stand.no_token.Goals as goal

-- Between records the number stands; in one it breaks the record.
-- Assumes nothing.
pub returns-then-self-eq-BETWEEN : goal.returns-then-self-eq-BETWEEN
returns-then-self-eq-BETWEEN c = stands c.if-self-eq-BETWEEN.true c.stops.ensures refl

pub returns : goal.returns
returns c = breaks c.if-self-eq-BETWEEN.false c.breaks.ensures
