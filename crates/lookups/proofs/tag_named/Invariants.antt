use mathlib.Core.Bool.{false}
use Prim.Native.Nat.{ℕ, ◌<◌}
use Rattle.lookups.proofs.Firsts.{TagTells}
use Rattle.lookups.proofs.tag_named.Given as goal

-- No tag passed so far has the name; the first that has it settles it.
-- Assumes nothing.
abbrev pub invariant-loop-t : goal.invariant-loop-t
invariant-loop-t l = (k : ℕ) → k < l.t → TagTells l.s l.name false k
