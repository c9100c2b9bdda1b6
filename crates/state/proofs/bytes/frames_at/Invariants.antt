use mathlib.Core.Path.{◌≡◌}
use Prim.Native.Nat.{◌+◌, ◌*◌, ◌-◌}
use lib.Seq.{sets as stored}
use Rattle.runs.specs.Machine.{most}
use Rattle.state.specs.Bounds.{frame_width}
use Rattle.state.specs.Bytes.{frame_at, gathered}
use Rattle.state.proofs.bytes.frames_at.Given as goal

-- The loop is stated by what is left to read: filling in the rest now gives all the frames (fill_more).
abbrev pub invariant-loop-i : goal.invariant-loop-i
invariant-loop-i l = (l.next ≡ l.at + frame_width * l.i) × (stored l.frames l.i (gathered (frame_at l.bytes) frame_width l.next (most - l.i)) ≡ gathered (frame_at l.bytes) frame_width l.at most)
