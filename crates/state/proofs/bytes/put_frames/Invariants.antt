use mathlib.Core.Path.{◌≡◌}
use Rattle.state.specs.Bounds.{frame_width}
use Prim.Native.Nat.{◌*◌}
use lib.ListN.{length, take}
use Rattle.state.specs.Bytes.{Wrote, each_bytes, frame_bytes}
use Rattle.state.proofs.bytes.put_frames.Given as goal

-- The loop is stated by what it has written: the first i frames.
abbrev pub invariant-loop-f : goal.invariant-loop-f
invariant-loop-f l = (length l.memory ≡ length l.initial.memory) × Wrote (frame_width * l.f-index) l.initial.memory l.at (each_bytes frame_bytes (take l.f-index l.f-items)) l.memory l.next
