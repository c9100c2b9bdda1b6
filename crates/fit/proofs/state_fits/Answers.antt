use mathlib.Core.Path.{sym, ap, subst}
use native.Mathlib.Omega.{arith}
use Rattle.tells.specs.Tells.{fails}
use Rattle.sheet.proofs.DefectLaws.{runs_inside}
use Rattle.programs.specs.Limits.{Value}
use Rattle.state.specs.Bytes.{state_from}
use Rattle.state.specs.Meaning.{Every}
use Rattle.state.specs.declared.Heading.{Heading}
use Rattle.fit.specs.Fit.{ClosingFits}
use Rattle.fit.proofs.Frames.{heading_in, frames_left}
use Rattle.tells.proofs.Laws.{told}
use Rattle.tells.proofs.Laws.{not_told}
use Rattle.fit.proofs.state_fits.Goals as goal

-- Each test that fails settles that the state does not fit; past all of them it fits exactly if its open elements do.
-- Assumes nothing.
pub returns-then-depth-gt-DEPTH : goal.returns-then-depth-gt-DEPTH
returns-then-depth-gt-DEPTH c =
    let h = c.heading_at-h in
    let e = heading_in c.args.state.now h.result h.ensures in
    record { tells = λ g γ. fails (λ k. omega (arith, k.few, c.if-depth-gt-DEPTH.true, ap (λ (x : Heading). x.depth) e)) }

pub returns-then-not-closing_fits : goal.returns-then-not-closing_fits
returns-then-not-closing_fits c =
    let h = c.heading_at-h in
    let e = heading_in c.args.state.now h.result h.ensures in
    record { tells = λ g γ. fails (λ k. not_told c.closing_fits.ensures c.if-not-closing_fits.true (subst (λ (x : Heading). ClosingFits x.closed) (sym e) k.closing)) }

pub returns-then-h-gt-MOST_VISITS : goal.returns-then-h-gt-MOST_VISITS
returns-then-h-gt-MOST_VISITS c =
    let h = c.heading_at-h in
    let e = heading_in c.args.state.now h.result h.ensures in
    record { tells = λ g γ. fails (λ k. omega (arith, k.count, c.if-h-gt-MOST_VISITS.true, ap (λ (x : Heading). x.count) e)) }

pub returns-then-not-values_fit : goal.returns-then-not-values_fit
returns-then-not-values_fit c =
    let e = heading_in c.args.state.now c.heading_at-h.result c.heading_at-h.ensures in
    record { tells = λ g γ. fails (λ k. not_told c.values_fit.ensures c.if-not-values_fit.true (subst (λ (x : Heading). Every Value x.values) (sym e) k.values)) }

pub frames_fit-requires : goal.frames_fit-requires
frames_fit-requires c =
    record { laid_out = c.requires.laid_out; runs_inside = runs_inside _ c.requires.well_formed.productions; trees = c.requires.well_formed.trees; n_le_most = omega (arith, c.if-depth-gt-DEPTH.false) }

pub returns : goal.returns
returns c =
    let b = c.args.state.now in
    let h = c.heading_at-h in
    frames_left (state_from b) h.result c.frames_fit.result (heading_in b h.result h.ensures) (omega (arith, c.if-depth-gt-DEPTH.false))
    (told c.closing_fits.ensures c.if-not-closing_fits.false) (omega (arith, c.if-h-gt-MOST_VISITS.false))
    (told c.values_fit.ensures c.if-not-values_fit.false) c.frames_fit.ensures
