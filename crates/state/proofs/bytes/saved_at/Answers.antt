use Rattle.state.specs.Bytes.{saved_at}
use Rattle.state.proofs.bytes.saved_at.Goals as goal

-- Field by field.
pub returns : goal.returns
unfolding saved_at
returns c = rw (c.on_at.ensures, c.values_at-values.ensures)
