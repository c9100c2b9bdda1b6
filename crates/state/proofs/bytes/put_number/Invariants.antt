use mathlib.Core.Bool.{true}
use mathlib.Core.Path.{◌≡◌}
use Prim.Native.Nat.{◌+◌, ◌-◌}
use lib.ListN.{length}
use Rattle.lent.specs.Put.{put}
use Rattle.state.specs.Bytes.{number_bytes}
use Rattle.state.proofs.bytes.put_number.Given as goal

-- The loop puts the bytes that are left of the number, lowest first: what has been put and what is left is the number throughout.
-- The loop is stated by what is left: writing the rest of the number now leaves what writing all of it would have left (put-number).
abbrev pub invariant-loop-i : goal.invariant-loop-i
invariant-loop-i l = (length l.memory ≡ length l.initial.memory) × (put true l.memory (l.at + l.i) (number_bytes (8 - l.i) l.left) ≡ put true l.initial.memory l.at (number_bytes 8 l.n))
