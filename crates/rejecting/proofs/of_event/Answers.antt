use Rattle.steps.proofs.Places.{some_open}
use Rattle.rejecting.proofs.Events.{root_told}
use Rattle.rejecting.proofs.of_event.Goals as goal

-- Outside, the root's start tag alone asks for an act.
pub returns-then-z-eq0 : goal.returns-then-z-eq0
returns-then-z-eq0 c =
    root_told c.args.x c.args.l.start c.last_of.result c.if-z-eq0.true c.requires.laid_out.layout_is.start_is.is c.last_of.ensures

pub of_event_inside-requires : goal.of_event_inside-requires
of_event_inside-requires c =
    record { laid_out = c.requires.laid_out; ready_at = c.requires.ready_at; depth_nonzero = some_open c.if-z-eq0.false; count_bound = c.requires.count_bound }

pub returns : goal.returns
returns c = c.of_event_inside.ensures
