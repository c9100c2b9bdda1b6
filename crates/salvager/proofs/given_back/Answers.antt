use borrow.Author.Rules.{rules}
use Rattle.layout.proofs.Laws.{laid_out}
use Rattle.sheet.proofs.DefectLaws.{runs_inside}
use Rattle.converter.proofs.Entering.{passed_sheet, closed_in}
use Rattle.salvager.proofs.Laws.{fails_first, other_shape, is_unfit, is_closed, runs}
use mathlib.Core.Path.{◌≡◌, refl, ap}
use Prim.Native.Nat.{ℕ}
use mathlib.Core.Bool.{not}
use Rattle.salvager.proofs.given_back.Goals as goal

-- The tests one after the other: the sheet, its shape, whether the bytes fit it, whether they are closed.
-- Assumes nothing.
pub returns-then-number-ne0 : goal.returns-then-number-ne0
returns-then-number-ne0 c = fails_first c.args.state.now c.args.area.now c.args.part.now c.verdict-number.ensures c.if-number-ne0.true

pub layout_of-l-requires : goal.layout_of-l-requires
layout_of-l-requires c = let w = (passed_sheet c.verdict-number.ensures c.if-number-ne0.false).is_sheet.well_formed_lem in w.size.least

pub shape_of-requires : goal.shape_of-requires
shape_of-requires c = let w = (passed_sheet c.verdict-number.ensures c.if-number-ne0.false).is_sheet.well_formed_lem in record { laid_out = laid_out c.layout_of-l.ensures w.size w.sections; runs_inside = runs_inside _ w.productions }

pub returns-in_default : goal.returns-in_default
returns-in_default c = other_shape c.args.state.now c.args.area.now c.args.part.now c.verdict-number.ensures c.if-number-ne0.false c.shape_of.ensures c.in_default.is

pub salvage_fits-requires : goal.salvage_fits-requires
salvage_fits-requires c = let w = (passed_sheet c.verdict-number.ensures c.if-number-ne0.false).is_sheet.well_formed_lem in record { laid_out = laid_out c.layout_of-l.ensures w.size w.sections; well_formed = w }

pub returns-then-not-salvage_fits : goal.returns-then-not-salvage_fits
returns-then-not-salvage_fits c = is_unfit c.args.state.now c.args.area.now c.args.part.now c.verdict-number.ensures c.if-number-ne0.false c.shape_of.ensures _ c.in-Some.is c.salvage_fits.ensures (ap not c.if-not-salvage_fits.true)

pub returns-then-closed : goal.returns-then-closed
returns-then-closed c = is_closed c.args.state.now c.args.area.now c.args.part.now c.verdict-number.ensures c.if-number-ne0.false c.shape_of.ensures _ c.in-Some.is c.salvage_fits.ensures (ap not c.if-not-salvage_fits.false) _ _ (closed_in c.args.state.now c.heading_at-h.result c.heading_at-h.ensures) c.if-closed.true c.repeated.ensures

pub returns : goal.returns
returns c = runs c.args.state.now c.args.area.now c.args.part.now c.verdict-number.ensures c.if-number-ne0.false c.shape_of.ensures _ c.in-Some.is c.salvage_fits.ensures (ap not c.if-not-salvage_fits.false) _ (closed_in c.args.state.now c.heading_at-h.result c.heading_at-h.ensures) c.if-closed.false
