use Rattle.state.specs.Bytes.{frame_at}
use Rattle.state.proofs.bytes.used_at.Goals as goal

-- Field by field.
pub returns : goal.returns
unfolding frame_at
returns c = rw (c.byte_at-2.ensures, c.byte_at.ensures, c.sets_at-sets.ensures, c.byte_at-open.ensures)
