use mathlib.Core.Path.{◌∙◌, ap, refl}
use native.Mathlib.Omega.{arith}
use Rattle.steps.proofs.Tops.{well, found_inside}
use Rattle.live.proofs.Stacks.{full_same}
use Rattle.steps.proofs.Answering.{answered_whole}
use Rattle.steps.proofs.Starts.{after_root, root_no_tag, root_missing, root_done}
use Rattle.steps.specs.declared.Stepped.{Stepped}
use Rattle.steps.specs.Seen.{whole}
use Rattle.steps.proofs.Run.start_root.Goals as goal

-- Where no element is open: each test that fails is a refusal; else the production of the start and the tag is entered.
-- Assumes nothing.
pub returns-then-live : goal.returns-then-live
returns-then-live c =
    record { stepped = after_root (ap (λ (y : Stepped). whole y c.args.stack.now) c.refuse.ensures) refl c.requires.depth_value c.if-live.true; below = λ i h. refl; long = refl }

pub returns-in_default : goal.returns-in_default
returns-in_default c =
    rw c.in_default.is (record { stepped = root_no_tag (ap (λ (y : Stepped). whole y c.args.stack.now) c.refuse-in_default.ensures) refl c.requires.depth_value c.if-live.false; below = λ i h. refl; long = refl })

pub returns-in_default-production_for : goal.returns-in_default-production_for
returns-in_default-production_for c =
    rw c.in-Some.is (record { stepped = root_missing _ c.requires.depth_value c.if-live.false c.requires.laid_out.layout_is.start_is.is (rw c.in_default-production_for.is at c.production_for.ensures) (ap (λ (y : Stepped). whole y c.args.stack.now) c.refuse-in_default-production_for.ensures) refl; below = λ i h. refl; long = refl })

pub enter-entered-requires : goal.enter-entered-requires
enter-entered-requires c =
    record { laid_out = c.requires.laid_out; q_lt_productions = found_inside c.requires.ready_at.ready c.requires.laid_out (rw c.in-Some-production_for.is at c.production_for.ensures); at_bound = omega (arith, c.requires.at_bound); count_bound = omega (arith, c.requires.count_bound); well_formed = well c.requires.ready_at.ready; depth_lt_most = omega (arith, c.requires.depth_value); stack_width_in_bounds = c.requires.ready_at.long }

pub returns : goal.returns
returns c =
    rw c.in-Some.is (record { stepped = root_done _ c.requires.depth_value c.if-live.false c.requires.laid_out.layout_is.start_is.is (rw c.in-Some-production_for.is at c.production_for.ensures) _ c.enter-entered.ensures.enters_as (ap (λ (y : Stepped). whole y c.enter-entered.new.stack) c.answer.ensures ∙ answered_whole c.args.self c.enter-entered.result c.args.stack.now c.enter-entered.new.stack (full_same c.args.self.live c.args.stack.now c.enter-entered.new.stack c.enter-entered.ensures.same_below)); below = c.enter-entered.ensures.same_below; long = c.enter-entered.ensures.stack_len_unchanged })
