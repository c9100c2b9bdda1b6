use Rattle.rejecting.proofs.Tokens.{some_told, none_told}
use Rattle.rejecting.proofs.of_start.Goals as goal

-- A tag of the sheet is asked for as any symbol is; of no tag, nothing is asked.
pub of_event-requires : goal.of_event-requires
of_event-requires c =
    record { laid_out = c.requires.laid_out; ready_at = c.requires.ready_at; count_bound = c.requires.count_bound }

pub returns-in-Some : goal.returns-in-Some
returns-in-Some c = rw c.in-Some.is (some_told c.of_event.ensures)

pub returns-in-None : goal.returns-in-None
returns-in-None c = rw c.in-None.is none_told
