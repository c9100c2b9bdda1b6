use mathlib.Core.Path.{subst}
use native.Mathlib.Omega.{arith}
use Rattle.steps.specs.Taken.{EventIn}
use Rattle.steps.proofs.Tokens.{cut_name}
use Rattle.rejecting.proofs.Tokens.{start_told, end_told, text_told, as_told}
use Rattle.rejecting.proofs.of_token.Goals as goal

-- By the kind of the token; a tag is looked up by its name.
pub overflow_add-end : goal.overflow_add-end
overflow_add-end c =
    omega (arith, subst (EventIn c.args.part.now) c.in-Start.is c.requires.event_in)

pub slice_bounds-tag_named-end : goal.slice_bounds-tag_named-end
slice_bounds-tag_named-end c =
    subst (EventIn c.args.part.now) c.in-Start.is c.requires.event_in

pub of_start-requires : goal.of_start-requires
of_start-requires c =
    record { laid_out = c.requires.laid_out; ready_at = c.requires.ready_at; count_bound = omega (arith, c.requires.count_le_most_visits) }

pub of_event-requires : goal.of_event-requires
of_event-requires c =
    record { laid_out = c.requires.laid_out; ready_at = c.requires.ready_at; count_bound = omega (arith, c.requires.count_le_most_visits) }

pub of_empty-requires : goal.of_empty-requires
of_empty-requires c =
    record { laid_out = c.requires.laid_out; ready_at = c.requires.ready_at; len_in_bounds = subst (EventIn c.args.part.now) c.in-Empty.is c.requires.event_in; count_le_most_visits = c.requires.count_le_most_visits }

pub of_event-requires-in-Character : goal.of_event-requires-in-Character
of_event-requires-in-Character c =
    record { laid_out = c.requires.laid_out; ready_at = c.requires.ready_at; count_bound = omega (arith, c.requires.count_le_most_visits) }

pub returns-in-Start : goal.returns-in-Start
returns-in-Start c =
    let part = c.args.part.now in
    as_told part c.in-Start.is (start_told part c.in-Start.from c.in-Start.len (cut_name part c.in-Start.from c.in-Start.len) c.tag_named-t.ensures c.of_start.ensures)

pub returns-in-End : goal.returns-in-End
returns-in-End c =
    let part = c.args.part.now in
    as_told part c.in-End.is (end_told part c.of_event.ensures)

pub returns-in-Empty : goal.returns-in-Empty
returns-in-Empty c =
    let part = c.args.part.now in
    as_told part c.in-Empty.is c.of_empty.ensures

pub returns-in-Character : goal.returns-in-Character
returns-in-Character c =
    let part = c.args.part.now in
    as_told part c.in-Character.is (text_told part c.of_event-in-Character.ensures)
