use mathlib.Core.Path.{subst}
use borrow.Author.Rules.{rules}
use Rattle.drafts.specs.Drafted.{SteppedIs}
use Rattle.drafts.proofs.Stays.{asks_move, asks_after_move, asks_fits, step_taken}
use Rattle.drafts.proofs.step.Goals as goal

pub move_of-m-requires : goal.move_of-m-requires
move_of-m-requires c = search (asks_move, rules)

pub after_move-s-requires : goal.after_move-s-requires
after_move-s-requires c = asks_after_move _ _ _ c.requires c.move_of-m.ensures

pub fits-requires : goal.fits-requires
fits-requires c = asks_fits _ _ _ _ c.requires c.move_of-m.ensures (subst (SteppedIs _) c.in-Some.is c.after_move-s.ensures)

pub returns-then-fits : goal.returns-then-fits
returns-then-fits c = step_taken _ _ _ _ c.fits.result c.requires c.move_of-m.ensures (subst (SteppedIs _) c.in-Some.is c.after_move-s.ensures) c.fits.ensures c.if-fits.true
