use Rattle.apart.proofs.Parting.{in_use_none, in_use_more}
use Rattle.apart.proofs.put_frames_in_use.Goals as goal

-- The frames around the innermost element, and its own.
pub returns-then-depth-eq0 : goal.returns-then-depth-eq0
returns-then-depth-eq0 c = let a = c.args in in_use_none a.live.depth a.live.top a.bytes.now c.if-depth-eq0.true

pub returns : goal.returns
returns c =
    let a = c.args in
    in_use_more a.live.depth a.live.top c.tidy.result c.if-depth-eq0.false c.tidy.ensures c.tidy_frames-next.ensures
    c.put_frame.ensures
