use mathlib.Core.Path.{◌≡◌}
use mathlib.Core.Bool.{not}
use Prim.Native.Nat.{◌-◌}
use native.Mathlib.Omega.{arith}
use lib.ListN.{length}
use borrow.Author.Rules.{rules}
use Rattle.live.specs.Live.{full}
use Rattle.converter.proofs.Going.{Going}
use Rattle.converter.proofs.run_live.Given as goal

-- The loop keeps `Going`, of the state that was handed in and of what is lent; a token moves the cursor on within the part. A refused token may have written
-- into the stack, but not where the state before it reads.
abbrev pub invariant-loop-event : goal.invariant-loop-event
invariant-loop-event l =
    (length l.stack ≡ length l.initial.stack) × Going l.s (full l.initial.run.live l.initial.stack) l.part (not l.ended) l.initial.out l.out l.at l.run.at (full l.run.live l.stack)

abbrev pub decreases-loop-event : goal.decreases-loop-event
decreases-loop-event l = length l.part - l.at
