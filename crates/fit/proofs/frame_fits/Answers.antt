use mathlib.Core.Path.{refl}
use native.Mathlib.Omega.{arith}
use Rattle.std.proofs.lemmas.Bool.{not-true, not-false}
use Rattle.fit.proofs.Frames.{no_production, other_nonterminal, no_place, other_sets, other_values, frame_fits_lem}
use Rattle.tells.proofs.Laws.{told}
use Rattle.tells.proofs.Laws.{not_told}
use Rattle.fit.proofs.frame_fits.Goals as goal

-- Each test that fails settles that the element does not fit, by the law of that test; past all of them it fits.
-- Assumes nothing.
pub returns-then-l-q : goal.returns-then-l-q
returns-then-l-q c =
    no_production _ _ _ _ c.unfit.ensures (omega (arith, c.requires.laid_out.layout_is.productions_is, c.if-l-q.true))

pub returns-then-nonterminal_of-may : goal.returns-then-nonterminal_of-may
returns-then-nonterminal_of-may c = other_nonterminal _ _ _ _ c.unfit-then-nonterminal_of-may.ensures _ c.nonterminal_of.ensures.is c.if-nonterminal_of-may.true

pub returns-then-not-spot : goal.returns-then-not-spot
returns-then-not-spot c = no_place _ _ _ _ _ c.spot_of-spot.ensures c.unfit-then-not-spot.ensures (not-true _ c.if-not-spot.true)

pub overflow_add-spot : goal.overflow_add-spot
overflow_add-spot c = let k = c.spot_of-spot.ensures.few (not-false _ c.if-not-spot.false) in omega (arith, k)

pub returns-then-open-spot : goal.returns-then-open-spot
returns-then-open-spot c = other_sets _ _ _ _ _ c.spot_of-spot.ensures c.unfit-then-open-spot.ensures c.if-open-spot.true

pub sets_fit-requires : goal.sets_fit-requires
sets_fit-requires c =
    let k = c.spot_of-spot.ensures.few (not-false _ c.if-not-spot.false) in
    omega (arith, k, c.if-open-spot.false)

pub returns-then-not-sets_fit : goal.returns-then-not-sets_fit
returns-then-not-sets_fit c = other_values _ _ _ _ _ c.spot_of-spot.ensures c.unfit-then-not-sets_fit.ensures (not_told c.sets_fit.ensures c.if-not-sets_fit.true)

pub returns : goal.returns
returns c =
    frame_fits_lem _ _ _ _ _ c.spot_of-spot.ensures refl refl (omega (arith, c.requires.laid_out.layout_is.productions_is, c.if-l-q.false)) _ c.nonterminal_of.ensures.is c.nonterminal_of.ensures.below c.if-nonterminal_of-may.false
    (not-false _ c.if-not-spot.false) c.if-open-spot.false (told c.sets_fit.ensures c.if-not-sets_fit.false)
