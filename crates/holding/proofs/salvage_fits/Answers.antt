use borrow.Author.Rules.{rules}
use Rattle.holding.proofs.Laws.{other_length, unfit_run, too_far, too_long, fits_by_mode}
use mathlib.Core.Path.{ap}
use mathlib.Core.Bool.{not}
use Rattle.holding.proofs.salvage_fits.Goals as goal

-- One test after another.
-- Assumes nothing.
pub returns-then-state-ne-BYTES : goal.returns-then-state-ne-BYTES
returns-then-state-ne-BYTES c = other_length c.if-state-ne-BYTES.true

pub returns-then-not-state_fits : goal.returns-then-not-state_fits
returns-then-not-state_fits c = unfit_run c.state_fits.ensures (ap not c.if-not-state_fits.true)

pub returns-then-passed-gt-MOST : goal.returns-then-passed-gt-MOST
returns-then-passed-gt-MOST c = too_far _ c.number_at-passed.ensures c.if-passed-gt-MOST.true

pub returns-then-passed-part : goal.returns-then-passed-part
returns-then-passed-part c = too_long _ c.number_at-passed.ensures c.if-passed-gt-MOST.false c.if-passed-part.true

pub returns : goal.returns
returns c = fits_by_mode _ c.if-state-ne-BYTES.false c.state_fits.ensures (ap not c.if-not-state_fits.false) c.number_at-passed.ensures c.if-passed-gt-MOST.false c.if-passed-part.false c.mode_fits.ensures
