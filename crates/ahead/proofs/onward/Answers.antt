use borrow.Author.Tests.{not-false}
use mathlib.Core.Path.{ap, ◌∙◌, subst}
use mathlib.Core.Bool.{Bool}
use native.Mathlib.Omega.{arith}
use lib.ListN.{length}
use Rattle.live.specs.Live.{full}
use Rattle.steps.specs.Parts.{PassesAs}
use Rattle.ahead.proofs.Going.{stays, stays_after, passes_blanks, takes_after}
use Rattle.ahead.proofs.onward.Goals as goal

pub returns-then-part-from : goal.returns-then-part-from
returns-then-part-from c =
    stays c.args.s.now c.args.part.now (full c.args.run.live c.args.stack.now) c.args.out.now c.args.from c.args.run.at c.requires.from_in_bounds c.requires.at_in_bounds c.requires.count_le_most_visits

pub returns-then-part-from-eq-OPENS : goal.returns-then-part-from-eq-OPENS
returns-then-part-from-eq-OPENS c =
    stays c.args.s.now c.args.part.now (full c.args.run.live c.args.stack.now) c.args.out.now c.args.from c.args.run.at c.requires.from_in_bounds c.requires.at_in_bounds c.requires.count_le_most_visits

pub passes-requires : goal.passes-requires
passes-requires c =
    record { laid_out = c.requires.laid_out; ready_at = c.requires.ready_at }

pub blanks-requires : goal.blanks-requires
blanks-requires c =
    c.requires.from_in_bounds

pub returns-then-passes : goal.returns-then-passes
returns-then-passes c =
    passes_blanks c.args.s.now c.args.part.now (full c.args.run.live c.args.stack.now) c.args.out.now c.args.from c.args.run.at c.requires.from_in_bounds c.requires.at_in_bounds c.requires.count_le_most_visits
    (subst (λ (x : Bool). PassesAs c.args.s.now (full c.args.run.live c.args.stack.now) x) c.if-passes.true c.passes.ensures) _ c.blanks.ensures

pub probe-requires : goal.probe-requires
probe-requires c =
    record { laid_out = c.requires.laid_out; ready_at = c.requires.ready_at; count_le_most_visits = c.requires.count_le_most_visits }

pub shape_of-out-in_default : goal.shape_of-out-in_default
shape_of-out-in_default c = ap length c.probe.ensures.out_unchanged

pub returns-in_default : goal.returns-in_default
returns-in_default c =
    stays_after c.args.s.now c.args.part.now (full c.args.run.live c.args.stack.now) c.args.out.now c.args.from c.args.run.at c.requires.from_in_bounds c.requires.at_in_bounds c.requires.count_le_most_visits _ c.probe.ensures.out_unchanged

pub characters-requires : goal.characters-requires
characters-requires c =
    record { from_in_bounds = c.requires.from_in_bounds; put_in_bounds = omega (arith, c.requires.at_in_bounds, ap length c.probe.ensures.out_unchanged); k_le_most_visits = (rw c.in-Some.is at c.probe.ensures.probed_as).few; n_le_most_visits = c.requires.count_le_most_visits }

pub shape_of-out : goal.shape_of-out
shape_of-out c = c.characters.ensures.long ∙ ap length c.probe.ensures.out_unchanged

pub returns : goal.returns
returns c =
    takes_after c.args.s.now c.args.part.now (full c.args.run.live c.args.stack.now) c.args.out.now c.args.from c.args.run.at c.requires.from_in_bounds c.requires.at_in_bounds c.requires.count_le_most_visits
    (subst (λ (x : Bool). PassesAs c.args.s.now (full c.args.run.live c.args.stack.now) x) c.if-passes.false c.passes.ensures) c.in-Some.visits
    (rw c.in-Some.is at c.probe.ensures.probed_as).right _ c.probe.ensures.out_unchanged _ _ c.characters.ensures
