use Rattle.state.proofs.Written.{wrote_then, wrote_same, heading_first}
use Rattle.state.proofs.Back.{state_back}
use Rattle.state.proofs.Sizes.{state_sized}
use Rattle.state.proofs.bytes.to_bytes.Goals as goal

-- All but the frames, then the frames (wrote_then). The bytes read back since every array is as long as its type says (state-sized).
pub returns : goal.returns
returns c =
    let s = c.args.state in record { wrote = wrote_same (heading_first s) (wrote_then c.put_heading-frames.ensures c.put_frames.ensures); state_value = state_back s (state_sized s _ c.well_formed.0) }
