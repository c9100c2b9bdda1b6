use Rattle.state.specs.Changes.{started}
use Rattle.state.proofs.Frame.start.Goals as goal

-- Field by field, with what `Saved::bare` answers.
pub returns : goal.returns
unfolding started
returns c = rw c.bare-none.ensures
