use Prim.Native.Nat.{◌≤◌}
use lib.ListN.{length}
use Rattle.runs.specs.Visits.{most_visits}
use Rattle.stretches.specs.Stretched.{CarriedAs}
use Rattle.stretches.proofs.plains.Given as goal

-- The loop carries the stretch on by one plain byte.
abbrev pub invariant-loop-at : goal.invariant-loop-at
invariant-loop-at l =
    (l.to ≤ length l.out) × (l.count ≤ most_visits) × CarriedAs l.part l.on l.k (record { at = l.initial.at; put = l.initial.to; count = l.initial.count }) l.initial.out (record { at = l.at; put = l.to; count = l.count }) l.out
