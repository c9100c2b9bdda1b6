use Rattle.state.specs.Changes.{fresh_state}
use Rattle.state.proofs.State.fresh.Goals as goal

-- Field by field, with what `Frame::bare` answers.
pub returns : goal.returns
unfolding fresh_state
returns c = rw c.bare-none.ensures
