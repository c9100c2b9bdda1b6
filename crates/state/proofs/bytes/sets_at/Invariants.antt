use mathlib.Core.Path.{◌≡◌}
use Prim.Native.Nat.{◌+◌, ◌*◌}
use Rattle.state.specs.Bounds.{most_sets, set_width}
use Rattle.state.specs.Changes.{bare_saved, bare_from}
use Rattle.state.specs.Bytes.{saved_at, gathered}
use Rattle.state.proofs.bytes.sets_at.Given as goal

-- The loop is stated by what it has read: the first i sets, the others bare.
abbrev pub invariant-loop-i : goal.invariant-loop-i
invariant-loop-i l = (l.next ≡ l.at + set_width * l.i) × (l.sets ≡ bare_from bare_saved l.i (gathered (saved_at l.bytes) set_width l.at most_sets))
