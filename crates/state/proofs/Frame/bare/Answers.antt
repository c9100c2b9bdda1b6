use Rattle.state.specs.Changes.{bare_frame}
use Rattle.state.proofs.Frame.bare.Goals as goal

-- Field by field, with what `Saved::bare` answers.
pub returns : goal.returns
unfolding bare_frame
returns c = rw c.bare-none.ensures
