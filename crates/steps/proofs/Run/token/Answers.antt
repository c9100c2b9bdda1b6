use mathlib.Core.Path.{refl, subst}
use native.Mathlib.Omega.{arith}
use Rattle.steps.specs.Taken.{EventIn}
use Rattle.steps.proofs.Tokens.{start_token, end_token, empty_as, text_as, as_read, cut_name}
use Rattle.steps.proofs.Run.token.Goals as goal

-- By the kind of the token; a tag is looked up by its name.
-- Assumes nothing.
pub overflow_add-end : goal.overflow_add-end
overflow_add-end c =
    omega (arith, (subst (EventIn c.args.part.now) c.in-Start.is c.requires.event_in))

pub slice_bounds-tag_named-end : goal.slice_bounds-tag_named-end
slice_bounds-tag_named-end c =
    subst (EventIn c.args.part.now) c.in-Start.is c.requires.event_in

pub start-requires : goal.start-requires
start-requires c =
    record { laid_out = c.requires.laid_out; ready_at = c.requires.ready_at; at_bound = omega (arith, c.requires.at_bound); count_bound = omega (arith, c.requires.count_le_most_visits) }

pub overflow_add-end-in-End : goal.overflow_add-end-in-End
overflow_add-end-in-End c =
    omega (arith, (subst (EventIn c.args.part.now) c.in-End.is c.requires.event_in))

pub slice_bounds-tag_named-end-in-End : goal.slice_bounds-tag_named-end-in-End
slice_bounds-tag_named-end-in-End c =
    subst (EventIn c.args.part.now) c.in-End.is c.requires.event_in

pub end-requires : goal.end-requires
end-requires c =
    record { laid_out = c.requires.laid_out; ready_at = c.requires.ready_at; at_bound = omega (arith, c.requires.at_bound); count_bound = omega (arith, c.requires.count_le_most_visits) }

pub overflow_add-end-in-Empty : goal.overflow_add-end-in-Empty
overflow_add-end-in-Empty c =
    omega (arith, (subst (EventIn c.args.part.now) c.in-Empty.is c.requires.event_in))

pub slice_bounds-tag_named-end-in-Empty : goal.slice_bounds-tag_named-end-in-Empty
slice_bounds-tag_named-end-in-Empty c =
    subst (EventIn c.args.part.now) c.in-Empty.is c.requires.event_in

pub text-requires : goal.text-requires
text-requires c =
    record { laid_out = c.requires.laid_out; ready_at = c.requires.ready_at; char = subst (EventIn c.args.part.now) c.in-Character.is c.requires.event_in; at_bound = c.requires.at_bound; count_le_most_visits = c.requires.count_le_most_visits }

pub returns-in-Start : goal.returns-in-Start
returns-in-Start c =
    record { stepped = as_read c.in-Start.is (start_token (cut_name c.args.part.now c.in-Start.from c.in-Start.len) c.tag_named-t.ensures c.start.ensures.stepped); below = c.start.ensures.below; long = c.start.ensures.long }

pub returns-in-End : goal.returns-in-End
returns-in-End c =
    record { stepped = as_read c.in-End.is (end_token (cut_name c.args.part.now c.in-End.from c.in-End.len) c.tag_named-t-in-End.ensures c.end.ensures); below = λ i h. refl; long = refl }

pub returns-in-Empty : goal.returns-in-Empty
returns-in-Empty c =
    record { stepped = as_read c.in-Empty.is (empty_as (cut_name c.args.part.now c.in-Empty.from c.in-Empty.len) c.tag_named-t-in-Empty.ensures c.empty.ensures.stepped); below = c.empty.ensures.below; long = c.empty.ensures.long }

pub returns-in-Character : goal.returns-in-Character
returns-in-Character c =
    record { stepped = as_read c.in-Character.is (text_as c.text.ensures); below = λ i h. refl; long = refl }
