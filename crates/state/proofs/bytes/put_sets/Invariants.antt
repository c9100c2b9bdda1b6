use mathlib.Core.Path.{◌≡◌}
use Rattle.state.specs.Bounds.{set_width}
use Prim.Native.Nat.{◌*◌}
use lib.ListN.{length, take}
use Rattle.state.specs.Bytes.{Wrote, each_bytes, saved_bytes}
use Rattle.state.proofs.bytes.put_sets.Given as goal

-- The loop is stated by what it has written: the first i sets.
abbrev pub invariant-loop-kept : goal.invariant-loop-kept
invariant-loop-kept l = (length l.memory ≡ length l.initial.memory) × Wrote (set_width * l.kept-index) l.initial.memory l.at (each_bytes saved_bytes (take l.kept-index l.sets)) l.memory l.next
