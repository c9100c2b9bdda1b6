use mathlib.Core.Path.{ap, refl}
use Rattle.steps.proofs.Places.{some_open}
use Rattle.steps.proofs.Starts.{inside_no_tag}
use Rattle.steps.specs.declared.Stepped.{Stepped}
use Rattle.steps.specs.Seen.{whole}
use Rattle.steps.proofs.Run.start.Goals as goal

-- Outside or inside; a name that no tag has is refused inside as outside.
-- Assumes nothing.
pub start_root-requires : goal.start_root-requires
start_root-requires c =
    record { laid_out = c.requires.laid_out; ready_at = c.requires.ready_at; depth_value = c.if-self-eq0.true; at_bound = c.requires.at_bound; count_bound = c.requires.count_bound }

pub returns-in_default : goal.returns-in_default
returns-in_default c =
    rw c.in_default.is (record { stepped = inside_no_tag (ap (λ (y : Stepped). whole y c.args.stack.now) c.refuse.ensures) refl (some_open c.if-self-eq0.false); below = λ i h. refl; long = refl })

pub start_inside-requires : goal.start_inside-requires
start_inside-requires c =
    record { laid_out = c.requires.laid_out; ready_at = c.requires.ready_at; depth_nonzero = some_open c.if-self-eq0.false; at_bound = c.requires.at_bound; count_bound = c.requires.count_bound }

pub returns : goal.returns
returns c = rw c.in-Some.is c.start_inside.ensures
