use mathlib.Core.Path.{◌≡◌, refl, subst}
use Prim.Native.Nat.{ℕ}
use borrow.Author.Rules.{rules}
use Rattle.layout.proofs.Laws.{laid_out}
use Rattle.sheet.proofs.DefectLaws.{runs_inside}
use Rattle.shapes.specs.Told.{ShapeTold}
use Rattle.rescued.specs.Salvaged.{runs}
use Rattle.salvages.proofs.Begins.{entered_run, no_other, back_untouched}
use Rattle.salvages.proofs.salvage_bytes.Goals as goal

-- Given back, or run: the run's promise is the answer.
-- Assumes nothing.
pub returns-then-number-ne0 : goal.returns-then-number-ne0
returns-then-number-ne0 c = record { salvaged_as = back_untouched c.given_back-number.ensures c.if-number-ne0.true c.args.ended c.args.out.now c.args.report.now c.untouched.ensures; state_len_unchanged = refl; out_len_unchanged = refl; waiting_len_unchanged = refl; report_len_unchanged = refl }

pub layout_of-l-requires : goal.layout_of-l-requires
layout_of-l-requires c = (entered_run c.given_back-number.ensures c.if-number-ne0.false).is_sheet.well_formed_lem.size.least

pub shape_of-requires : goal.shape_of-requires
shape_of-requires c = let w = (entered_run c.given_back-number.ensures c.if-number-ne0.false).is_sheet.well_formed_lem in record { laid_out = laid_out c.layout_of-l.ensures w.size w.sections; runs_inside = runs_inside _ w.productions }

pub returns-in_default : goal.returns-in_default
returns-in_default c = absurd (no_other c.given_back-number.ensures c.if-number-ne0.false c.shape_of.ensures c.in_default.is)

pub run_bytes-requires : goal.run_bytes-requires
run_bytes-requires c = let w = (entered_run c.given_back-number.ensures c.if-number-ne0.false).is_sheet.well_formed_lem in record { laid_out = laid_out c.layout_of-l.ensures w.size w.sections; may_salvage = entered_run c.given_back-number.ensures c.if-number-ne0.false; shape_told = subst (ShapeTold c.args.sheet.now) c.in-Some.is c.shape_of.ensures }

pub shape_of-state : goal.shape_of-state
shape_of-state c = c.run_bytes.auto.state

pub shape_of-out : goal.shape_of-out
shape_of-out c = c.run_bytes.auto.out

pub shape_of-waiting : goal.shape_of-waiting
shape_of-waiting c = c.run_bytes.auto.waiting

pub shape_of-report : goal.shape_of-report
shape_of-report c = c.run_bytes.auto.report

pub returns : goal.returns
returns c = record { salvaged_as = runs c.run_bytes.ensures; state_len_unchanged = c.run_bytes.auto.state; out_len_unchanged = c.run_bytes.auto.out; waiting_len_unchanged = c.run_bytes.auto.waiting; report_len_unchanged = c.run_bytes.auto.report }
