use borrow.Author.Rules.{rules}
use mathlib.Core.Path.{sym, ap, ◌∙◌}
use lib.ListN.{length}
use Rattle.holding.proofs.Laws.{returning_long, shaped_as, returns_as}
use Rattle.holding.proofs.returning.Goals as goal

-- What returns is a state of its own.
-- Assumes nothing.
pub slice_bounds-live_in-end : goal.slice_bounds-live_in-end
slice_bounds-live_in-end c = sym (ap length c.put_returning.ensures ∙ returning_long c.args.state.now c.requires.state_len)

pub live_in-requires : goal.live_in-requires
live_in-requires c = shaped_as c.args.state.now c.put_returning.ensures c.requires.shaped

pub returns : goal.returns
returns c = returns_as c.args.state.now c.put_returning.ensures c.live_in.ensures
