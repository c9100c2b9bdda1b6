use mathlib.Core.Path.{refl, ap, ◌∙◌}
use mathlib.Core.Bool.{false}
use mathlib.Core.List.{List}
use Prim.Native.Nat.{ℕ}
use lib.ListN.{length}
use Rattle.layout.proofs.Laws.{laid_out}
use Rattle.state.specs.Bytes.{state_from}
use Rattle.converter.proofs.Going.{event_in, bound}
use Rattle.converter.proofs.Entering.{passed_sheet, all_put_in}
use Rattle.rejecting.proofs.Entering.{failing_none, unfit_none, no_token_none, shaped_here, ready_here, count_here, answered_here}
use mathlib.Core.Bool.{not}
use Rattle.rejecting.proofs.find_rejecter.Goals as goal

-- The tests one after the other; then the run over the state's bytes.
pub returns-then-verdict-ne0 : goal.returns-then-verdict-ne0
returns-then-verdict-ne0 c = failing_none refl c.verdict.ensures c.if-verdict-ne0.true

pub layout_of-l-requires : goal.layout_of-l-requires
layout_of-l-requires c = (passed_sheet c.verdict.ensures c.if-verdict-ne0.false).is_sheet.well_formed_lem.size.least

pub state_fits-requires : goal.state_fits-requires
state_fits-requires c =
    let w = (passed_sheet c.verdict.ensures c.if-verdict-ne0.false).is_sheet.well_formed_lem in
    record { laid_out = laid_out c.layout_of-l.ensures w.size w.sections; well_formed = w }

pub returns-then-not-state_fits : goal.returns-then-not-state_fits
returns-then-not-state_fits c =
    let t = c.to_bytes in
    unfit_none refl (ap state_from (all_put_in _ _ _ t.ensures.wrote) ∙ t.ensures.state_value) c.state_fits.ensures (ap not c.if-not-state_fits.true)

pub returns-in_default : goal.returns-in_default
returns-in_default c =
    let r = c.read_on-answer in
    no_token_none refl r.result r.ensures c.in_default.not-Token

pub live_in-live-requires : goal.live_in-live-requires
live_in-live-requires c =
    let t = c.to_bytes in
    let e = all_put_in _ _ _ t.ensures.wrote in
    shaped_here c.verdict.ensures c.if-verdict-ne0.false t.new.memory (ap (λ (l : List ℕ). length l) e ∙ t.ensures.wrote.wide) c.state_fits.ensures (ap not c.if-not-state_fits.false)

pub of_refused-requires : goal.of_refused-requires
of_refused-requires c =
    let part = c.args.part.now in
    let t = c.to_bytes in
    let e = all_put_in _ _ _ t.ensures.wrote in
    let v = c.verdict.ensures in
    let p = c.if-verdict-ne0.false in
    let w = (passed_sheet v p).is_sheet.well_formed_lem in
    let wide = ap (λ (l : List ℕ). length l) e ∙ t.ensures.wrote.wide in
    let T = c.state_fits.ensures in
    let f = (ap not c.if-not-state_fits.false) in
    let r = c.read_on-answer in
    let h = c.live_in-live in record { laid_out = laid_out c.layout_of-l.ensures w.size w.sections; ready_at = ready_here v p t.new.memory wide T f h.result h.ensures; event_in = event_in false part 0 c.in-Token.event c.in-Token.field-1.at (bound false part 0 r.result c.in-Token.event c.in-Token.field-1 r.ensures c.in-Token.is); count_le_most_visits = count_here v p t.new.memory wide T f h.result h.ensures }

pub returns : goal.returns
returns c =
    let part = c.args.part.now in
    let t = c.to_bytes in
    let e = all_put_in _ _ _ t.ensures.wrote in
    let r = c.read_on-answer in
    let h = c.live_in-live in
    answered_here c.verdict.ensures c.if-verdict-ne0.false t.new.memory (ap (λ (l : List ℕ). length l) e ∙ t.ensures.wrote.wide) c.state_fits.ensures (ap not c.if-not-state_fits.false) h.result h.ensures
    (ap state_from e ∙ t.ensures.state_value) (bound false part 0 r.result c.in-Token.event c.in-Token.field-1 r.ensures c.in-Token.is) c.of_refused.ensures
