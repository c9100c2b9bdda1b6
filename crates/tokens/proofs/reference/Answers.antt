use native.Mathlib.Omega.{arith}
use Rattle.tokens.proofs.Reading
use Rattle.tokens.specs.Tokens.{amp, lt, gt, apos, quot}
use Rattle.tokens.proofs.reference.Goals as goal

-- Each word is compared in turn: whole, it is the token; begun, the front is begun; else the front is apart from it. Apart from all five, it is none.
pub overflow_add-result : goal.overflow_add-result
overflow_add-result c = omega (arith, c.requires.front.fits, Reading.ref_fits c.args.f.now c.args.at amp _ c.compare.ensures c.in-Whole.is)

pub returns-in-Whole : goal.returns-in-Whole
returns-in-Whole c = Reading.ref_token c.args.f.now c.args.at amp _ c.compare.ensures c.in-Whole.is

pub returns-in-Begun : goal.returns-in-Begun
returns-in-Begun c = Reading.ref_begun c.args.f.now c.args.at amp _ c.compare.ensures c.in-Begun.is

pub overflow_add-result-in-Whole-compare : goal.overflow_add-result-in-Whole-compare
overflow_add-result-in-Whole-compare c = omega (arith, c.requires.front.fits, Reading.ref_fits c.args.f.now c.args.at lt _ c.compare-2.ensures c.in-Whole-compare.is)

pub returns-in-Whole-compare : goal.returns-in-Whole-compare
returns-in-Whole-compare c = Reading.ref_token c.args.f.now c.args.at lt _ c.compare-2.ensures c.in-Whole-compare.is

pub returns-in-Begun-compare : goal.returns-in-Begun-compare
returns-in-Begun-compare c = Reading.ref_begun c.args.f.now c.args.at lt _ c.compare-2.ensures c.in-Begun-compare.is

pub overflow_add-result-in-Whole-compare-2 : goal.overflow_add-result-in-Whole-compare-2
overflow_add-result-in-Whole-compare-2 c = omega (arith, c.requires.front.fits, Reading.ref_fits c.args.f.now c.args.at gt _ c.compare-3.ensures c.in-Whole-compare-2.is)

pub returns-in-Whole-compare-2 : goal.returns-in-Whole-compare-2
returns-in-Whole-compare-2 c = Reading.ref_token c.args.f.now c.args.at gt _ c.compare-3.ensures c.in-Whole-compare-2.is

pub returns-in-Begun-compare-2 : goal.returns-in-Begun-compare-2
returns-in-Begun-compare-2 c = Reading.ref_begun c.args.f.now c.args.at gt _ c.compare-3.ensures c.in-Begun-compare-2.is

pub overflow_add-result-in-Whole-compare-3 : goal.overflow_add-result-in-Whole-compare-3
overflow_add-result-in-Whole-compare-3 c = omega (arith, c.requires.front.fits, Reading.ref_fits c.args.f.now c.args.at apos _ c.compare-4.ensures c.in-Whole-compare-3.is)

pub returns-in-Whole-compare-3 : goal.returns-in-Whole-compare-3
returns-in-Whole-compare-3 c = Reading.ref_token c.args.f.now c.args.at apos _ c.compare-4.ensures c.in-Whole-compare-3.is

pub returns-in-Begun-compare-3 : goal.returns-in-Begun-compare-3
returns-in-Begun-compare-3 c = Reading.ref_begun c.args.f.now c.args.at apos _ c.compare-4.ensures c.in-Begun-compare-3.is

pub overflow_add-result-in-Whole-compare-4 : goal.overflow_add-result-in-Whole-compare-4
overflow_add-result-in-Whole-compare-4 c = omega (arith, c.requires.front.fits, Reading.ref_fits c.args.f.now c.args.at quot _ c.compare-5.ensures c.in-Whole-compare-4.is)

pub returns-in-Whole-compare-4 : goal.returns-in-Whole-compare-4
returns-in-Whole-compare-4 c = Reading.ref_token c.args.f.now c.args.at quot _ c.compare-5.ensures c.in-Whole-compare-4.is

pub returns-in-Begun-compare-4 : goal.returns-in-Begun-compare-4
returns-in-Begun-compare-4 c = Reading.ref_begun c.args.f.now c.args.at quot _ c.compare-5.ensures c.in-Begun-compare-4.is

pub returns : goal.returns
returns c = Reading.ref_bad c.args.f.now c.args.at c.requires.in_bounds.0 c.requires.in_bounds.1 c.requires.in_bounds.2 (Reading.each_ref c.args.f.now (Reading.ref_apart c.args.f.now c.args.at amp _ c.compare.ensures c.in-No.is) (Reading.ref_apart c.args.f.now c.args.at lt _ c.compare-2.ensures c.in-No-compare.is) (Reading.ref_apart c.args.f.now c.args.at gt _ c.compare-3.ensures c.in-No-compare-2.is) (Reading.ref_apart c.args.f.now c.args.at apos _ c.compare-4.ensures c.in-No-compare-3.is) (Reading.ref_apart c.args.f.now c.args.at quot _ c.compare-5.ensures c.in-No-compare-4.is))
