use Rattle.std.proofs.Common.{◌≡◌, ◌+◌, drop}
use Rattle.places.specs.Lines.{line_ends}
use Rattle.places.proofs.line_ends.Given as goal

-- What is counted and what is left to count are all of them.
abbrev pub invariant-loop-i : goal.invariant-loop-i
invariant-loop-i l = l.n + line_ends (drop l.i l.bytes) ≡ line_ends l.bytes
