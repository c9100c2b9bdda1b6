use Rattle.state.specs.Bytes.{number, bytes_at}
use mathlib.Core.Path.{◌≡◌}
use Prim.Native.Nat.{◌+◌, ◌-◌, ◌^◌, ◌<◌}
use Rattle.state.proofs.bytes.number_at.Given as goal

-- The loop has read the higher bytes: what is read so far, and the bytes below it, make the number.
-- From the highest byte down: n is the number that the bytes from i on are, below 256 to the number of them.
abbrev pub invariant-loop-i : goal.invariant-loop-i
invariant-loop-i l = (l.n ≡ number (bytes_at l.bytes (l.at + l.i) (8 - l.i))) × (l.n < 256 ^ (8 - l.i))
