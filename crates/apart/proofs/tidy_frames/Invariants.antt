use mathlib.Core.Path.{◌≡◌}
use Prim.Native.Nat.{◌*◌}
use lib.ListN.{length, take}
use Rattle.state.specs.Bounds.{frame_width, head_width}
use Rattle.state.specs.Bytes.{gathered, used_at, each_bytes, frame_bytes, Wrote}
use Rattle.apart.proofs.tidy_frames.Given as goal

-- The loop is stated by what it has written: the first i frames as they lay there at the start.
abbrev pub invariant-loop : goal.invariant-loop
invariant-loop l =
    (length l.bytes ≡ length l.initial.bytes) × Wrote (frame_width * l.counter) l.initial.bytes head_width (each_bytes frame_bytes (take l.counter (gathered (used_at l.initial.bytes) frame_width head_width l.n))) l.bytes l.next
