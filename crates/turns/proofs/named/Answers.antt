use mathlib.Core.Path.{refl}
use Rattle.turns.proofs.Laws.{named_as}
use Rattle.turns.proofs.named.Goals as goal

-- The name lies between its ends.
-- Assumes nothing.
pub returns : goal.returns
returns c = named_as c.args.s.now c.args.part.now c.args.from c.args.len _ c.args.tag _ _ refl c.tag_named.ensures c.eq.ensures
