use borrow.Author.Rules.{rules}
use mathlib.Core.Path.{sym, ap, ◌∙◌}
use lib.ListN.{length}
use Rattle.holding.proofs.Laws.{returning_long, fit_as}
use Rattle.holding.proofs.returns_fit.Goals as goal

-- What returns is a state of its own.
-- Assumes nothing.
pub slice_bounds-state_fits-end : goal.slice_bounds-state_fits-end
slice_bounds-state_fits-end c = sym (ap length c.put_returning.ensures ∙ returning_long c.args.state.now c.requires.state_len)

pub returns : goal.returns
returns c = fit_as c.args.state.now c.put_returning.ensures c.state_fits.ensures
