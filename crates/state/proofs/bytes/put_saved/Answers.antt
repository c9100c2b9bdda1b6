use Rattle.state.specs.Bytes.{saved_bytes}
use Rattle.state.proofs.Written.{wrote_then}
use Rattle.state.proofs.bytes.put_saved.Goals as goal

-- The values, then echo.
pub returns : goal.returns
unfolding saved_bytes
returns c = wrote_then c.put_values-next.ensures c.put_flag.ensures
