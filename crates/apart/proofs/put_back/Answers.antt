use mathlib.Core.Path.{◌≡◌, ap, ◌∙◌}
use lib.ListN.{length}
use borrow.Author.Rules.{rules}
use Rattle.runs.specs.Visits.{attributes}
use Rattle.state.specs.Bytes.{state_from}
use Rattle.state.proofs.Back.{state_back}
use Rattle.state.proofs.Sizes.{frame_sized}
use Rattle.apart.proofs.Parting.{left, all_put, left_sized}
use Rattle.apart.proofs.put_back.Goals as goal

-- Frames, zeros and the head, one after another. The bytes read back since every array is as long as its type says.
pub returns : goal.returns
returns c =
    let h = c.args.live in
    let b = c.args.bytes.now in
    let v : length h.values ≡ attributes = search rules in
    let e = all_put h b c.requires.depth_le_most c.root_closed.result c.requires.bytes_len c.root_closed.ensures c.put_frames_in_use-used.ensures c.clear_from.ensures
    c.put_heading.ensures in
    record { bytes_after = e; bytes_after_2 = ap state_from e ∙ state_back (left h b c.requires.depth_le_most) (left_sized h b c.requires.depth_le_most v (search rules) (frame_sized h.top _ c.well_formed.0.1.1.1.1.1.1.1.1.0)) }
