use mathlib.Core.Path.{◌≡◌}
use mathlib.Core.Bool.{true}
use Prim.Native.Nat.{◌-◌}
use lib.ListN.{length, replicate}
use borrow.Author.Rules.{rules}
use Rattle.lent.specs.Put.{put}
use Rattle.resting.proofs.clear.Given as goal

-- The loop is stated by what is left to clear.
-- Assumes nothing.
abbrev pub invariant-loop-i : goal.invariant-loop-i
invariant-loop-i l = (length l.memory ≡ length l.initial.memory) × (put true l.memory l.i (replicate (l.to - l.i) 0) ≡ put true l.initial.memory l.from (replicate (l.to - l.from) 0))
