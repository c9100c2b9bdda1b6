use borrow.Author.Rules.{rules}
use mathlib.Core.Path.{refl}
use Rattle.resting.proofs.Laws.{tail_put}
use Rattle.resting.proofs.put_tail.Goals as goal

-- Five numbers one behind another.
-- Assumes nothing.
pub returns : goal.returns
returns c = tail_put c.args.state.now _ _ _ _ _ _ _ _ _ _ _ c.args.mode c.args.passed c.args.first c.args.number c.args.waits refl c.put_one-at.ensures c.put_number-second.ensures c.put_number-third.ensures c.put_one-fourth.ensures c.put_number.ensures
