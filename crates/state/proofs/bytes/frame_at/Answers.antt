use Prim.Native.Nat.{◌+◌}
use Rattle.state.specs.Bounds.{most_sets, set_width}
use Rattle.state.specs.Changes.{bare_saved}
use Rattle.state.proofs.Gathered.{whole_read}
use Rattle.state.specs.Bytes.{frame_at, saved_at}
use Rattle.state.proofs.bytes.frame_at.Goals as goal

-- Field by field.
pub returns : goal.returns
unfolding frame_at
returns c = rw (c.byte_at-3.ensures, c.byte_at-2.ensures, c.byte_at.ensures, c.sets_at-sets.ensures, whole_read bare_saved (saved_at c.args.bytes.now) set_width (c.args.at + 3) most_sets)
