use Rattle.std.proofs.Common.{◌≡◌, length}
use Rattle.outcomes.proofs.productions_of.Given as goal

-- A production for each frame.
abbrev pub invariant-loop-i : goal.invariant-loop-i
invariant-loop-i l = 32 ≡ length l.productions
