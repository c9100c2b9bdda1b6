use Rattle.state.proofs.bytes.on_at.Goals as goal

-- The test of the byte that was read.
pub returns : goal.returns
returns c = rw c.byte_at.ensures
