use Rattle.std.proofs.Common.{◌≡◌, ◌-◌, ◌<◌, ◌≤◌, length}
use Rattle.places.specs.Lines.{character_start, uncut}
use Rattle.places.proofs.uncut.Given as goal

-- The bytes are looked at one by one, from the first that is left out backwards; the character's start is sought in those that are left.
abbrev pub invariant-loop-passed : goal.invariant-loop-passed
invariant-loop-passed l = (l.i ≤ l.n) × (l.n < length l.bytes) × (character_start l.bytes l.n (4 - l._passed) l.i ≡ uncut l.bytes l.n)
