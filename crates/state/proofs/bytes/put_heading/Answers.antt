use Rattle.state.specs.Bytes.{heading_bytes}
use Rattle.state.proofs.Written.{wrote_then}
use Rattle.state.proofs.bytes.put_heading.Goals as goal

-- Field by field, one after another (wrote_then).
pub returns : goal.returns
unfolding heading_bytes
returns c =
    wrote_then c.put_values-echo.ensures (wrote_then c.put_flag-count.ensures (wrote_then c.put_number-rooted.ensures
    (wrote_then c.put_flag-closed.ensures (wrote_then c.put_one-depth.ensures c.put_number.ensures))))
