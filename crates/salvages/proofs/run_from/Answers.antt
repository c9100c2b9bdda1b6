use mathlib.Core.Path.{ap, ◌∙◌}
use native.Mathlib.Omega.{arith}
use borrow.Author.Rules.{rules}
use Rattle.state.specs.declared.Heading.{Heading}
use Rattle.converter.proofs.InPlace.{count_in}
use Rattle.salvages.proofs.Assembly.{long_with, before_deep, number_few, left_deep, ready_here, ran_here}
use Rattle.salvages.proofs.run_from.Goals as goal

-- The state that is read runs over the frames where they lie; then the area is cleared and the state put back, and that is what the call answers.
-- Assumes nothing.
pub slice_bounds-run_steps-count : goal.slice_bounds-run_steps-count
slice_bounds-run_steps-count c = omega (arith, c.requires.may_salvage.fits.wide)

pub slice_bounds-run_steps-start : goal.slice_bounds-run_steps-start
slice_bounds-run_steps-start c = omega (arith, c.requires.may_salvage.fits.wide)

pub run_steps-ending-requires : goal.run_steps-ending-requires
run_steps-ending-requires c = record { laid_out = c.requires.laid_out; ready = ready_here c.requires.may_salvage c.args.g c.args.stand c.requires.grounds c.requires.base_value c.requires.stand_as c.args.out.now; resumption_is = c.requires.resumption_is }

pub left_with-left-requires : goal.left_with-left-requires
left_with-left-requires c = c.run_steps-ending.ensures.ran.few

pub overflow_add-g : goal.overflow_add-g
overflow_add-g c = omega (arith, c.run_steps-ending.ensures.ran.ready.far, c.run_steps-ending.ensures.ran.ready.within)

pub put_stand-requires : goal.put_stand-requires
put_stand-requires c = let w = c.run_steps-ending in let t = w.result.stand in let H = w.ensures.ran.ready in record { state_len = long_with c.args.state.now w.new.stack c.requires.may_salvage.fits.wide w.auto.stack ∙ c.requires.may_salvage.fits.wide; depth_le_most = left_deep w.result.number t.live _ c.left_with-left.ensures H.stands.shaped.deep; depth_le_most_2 = before_deep t H.holds; number_bound = number_few t H.holds }

pub shape_of-state : goal.shape_of-state
shape_of-state c = let w = c.run_steps-ending in c.put_stand.auto.state ∙ long_with c.args.state.now w.new.stack c.requires.may_salvage.fits.wide w.auto.stack

pub shape_of-out : goal.shape_of-out
shape_of-out c = c.run_steps-ending.auto.out

pub shape_of-waiting : goal.shape_of-waiting
shape_of-waiting c = c.clear.auto.memory ∙ c.run_steps-ending.auto.area

pub shape_of-report : goal.shape_of-report
shape_of-report c = c.run_steps-ending.auto.report

pub returns : goal.returns
returns c = let w = c.run_steps-ending in let p = c.put_stand in let h = c.heading_at-h in ran_here c.requires.may_salvage c.args.g c.args.stand c.requires.base_value c.requires.stand_as w.new.stack w.new.out w.new.area w.new.report w.result w.ensures w.auto.stack w.auto.out w.auto.report c.left_with-left.result p.new.state c.clear.new.memory _ c.left_with-left.ensures p.ensures c.clear.ensures (ap (λ (x : Heading). x.count) h.ensures ∙ count_in p.new.state)
