use mathlib.Core.Path.{ap, refl}
use Rattle.steps.proofs.Places.{some_open}
use Rattle.steps.proofs.Starts.{after_root}
use Rattle.steps.proofs.Ends.{end_before}
use Rattle.steps.specs.declared.Stepped.{Stepped}
use Rattle.steps.specs.Seen.{whole}
use Rattle.steps.proofs.Run.end.Goals as goal

-- Outside nothing can end; inside an element it is that one's end.
-- Assumes nothing.
pub returns-then-live : goal.returns-then-live
returns-then-live c =
    after_root (ap (λ (y : Stepped). whole y c.args.stack.now) c.refuse.ensures) refl c.if-live-eq0.true c.if-live.true

pub returns-then-live-eq0 : goal.returns-then-live-eq0
returns-then-live-eq0 c =
    end_before c.args.t (ap (λ (y : Stepped). whole y c.args.stack.now) c.refuse-then-live-eq0.ensures) refl c.if-live-eq0.true c.if-live.false

pub end_inside-requires : goal.end_inside-requires
end_inside-requires c =
    record { laid_out = c.requires.laid_out; ready_at = c.requires.ready_at; depth_nonzero = some_open c.if-live-eq0.false; at_bound = c.requires.at_bound; count_bound = c.requires.count_bound }
