use Rattle.state.specs.Bytes.{state_from}
use Rattle.state.proofs.bytes.from_bytes.Goals as goal

-- All but the frames, and the frames.
pub returns : goal.returns
unfolding state_from
returns c = rw (c.frames_at-frames.ensures, c.heading_at-h.ensures)
