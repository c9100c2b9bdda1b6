use Rattle.std.proofs.Common.{◌≡◌, drop}
use Rattle.places.specs.Lines.{line_ends}
use Rattle.places.proofs.last_line.Given as goal

-- The bytes are passed one by one, from the last; in those that are passed no line ends.
abbrev pub invariant-loop-i : goal.invariant-loop-i
invariant-loop-i l = line_ends (drop l.i l.bytes) ≡ 0
