use Rattle.turns.proofs.Laws.{not_alone, is_start, is_end, is_empty, is_character, in_start, in_empty}
use Rattle.turns.proofs.begins_record.Goals as goal

-- By the kind of the token.
-- Assumes nothing.
pub returns-then-depth-ne1 : goal.returns-then-depth-ne1
returns-then-depth-ne1 c = not_alone c.if-depth-ne1.true

pub named-requires : goal.named-requires
named-requires c = record { laid_out = c.requires.laid_out; len_in_bounds = in_start c.args.part.now c.args.e c.requires.event_in c.in-Start.is }

pub named-requires-in-Empty : goal.named-requires-in-Empty
named-requires-in-Empty c = record { laid_out = c.requires.laid_out; len_in_bounds = in_empty c.args.part.now c.args.e c.requires.event_in c.in-Empty.is }

pub returns-in-Start : goal.returns-in-Start
returns-in-Start c = is_start c.if-depth-ne1.false c.in-Start.is c.named.ensures

pub returns-in-End : goal.returns-in-End
returns-in-End c = is_end c.in-End.is

pub returns-in-Empty : goal.returns-in-Empty
returns-in-Empty c = is_empty c.if-depth-ne1.false c.in-Empty.is c.named-in-Empty.ensures

pub returns-in-Character : goal.returns-in-Character
returns-in-Character c = is_character c.in-Character.is
