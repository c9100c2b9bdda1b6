use mathlib.Core.Path.{sym, ap, ◌∙◌, subst}
use mathlib.Core.Option.{some}
use borrow.Author.Rules.{rules}
use Rattle.layout.proofs.Laws.{laid_out}
use Rattle.calls.specs.Call.{again}
use Rattle.state.specs.Bytes.{state_from}
use Rattle.state.proofs.Widths.{read_sized}
use Rattle.converter.specs.Inner.{Entered}
use Rattle.converter.proofs.Entering.{passed_sheet, entered_failing, entered_none, entered_unfit, entered_closed, entered_open, in_bytes, closed_in, state_none}
use mathlib.Core.Bool.{not}
use Rattle.converter.proofs.given_back.Goals as goal

-- The tests one after the other: the sheet's verdict, whether the bytes are a state that fits it, whether it is closed.
pub returns-then-number-ne0 : goal.returns-then-number-ne0
returns-then-number-ne0 c = entered_failing c.verdict-number.ensures c.if-number-ne0.true

pub returns-then-state-ne-BYTES : goal.returns-then-state-ne-BYTES
returns-then-state-ne-BYTES c = entered_none c.verdict-number.ensures c.if-number-ne0.false (state_none c.args.state.now c.if-state-ne-BYTES.true)

pub layout_of-l-requires : goal.layout_of-l-requires
layout_of-l-requires c = (passed_sheet c.verdict-number.ensures c.if-number-ne0.false).is_sheet.well_formed_lem.size.least

pub state_fits-requires : goal.state_fits-requires
state_fits-requires c =
    let w = (passed_sheet c.verdict-number.ensures c.if-number-ne0.false).is_sheet.well_formed_lem in
    record { laid_out = laid_out c.layout_of-l.ensures w.size w.sections; well_formed = w }

pub returns-then-not-state_fits : goal.returns-then-not-state_fits
returns-then-not-state_fits c =
    let z = c.args.state.now in
    in_bytes z c.if-state-ne-BYTES.false (entered_unfit c.verdict-number.ensures c.if-number-ne0.false (state_from z) _ c.state_fits.ensures (ap not c.if-not-state_fits.true))

pub returns-then-closed : goal.returns-then-closed
returns-then-closed c =
    let a = c.args in
    let z = a.state.now in
    let h = c.heading_at-h in
    let k = closed_in z h.result h.ensures in
    in_bytes z c.if-state-ne-BYTES.false
    (subst (Entered a.sheet.now (some (state_from z))) (ap again (sym k) ∙ sym c.repeated.ensures)
    (entered_closed c.verdict-number.ensures c.if-number-ne0.false (state_from z) _ c.state_fits.ensures (ap not c.if-not-state_fits.false) (λ q. c.if-closed.true (k ∙ q))))

pub returns : goal.returns
returns c =
    let z = c.args.state.now in
    let h = c.heading_at-h in
    in_bytes z c.if-state-ne-BYTES.false
    (entered_open c.verdict-number.ensures c.if-number-ne0.false (state_from z) _ c.state_fits.ensures (ap not c.if-not-state_fits.false) (sym (closed_in z h.result h.ensures) ∙ c.if-closed.false) (read_sized z))
