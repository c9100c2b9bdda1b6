use Prim.Native.Nat.{◌-◌}
use lib.ListN.{length}
use Rattle.stretches.specs.Stretched.{StretchedAs}
use Rattle.stretches.proofs.characters.Given as goal

-- The loop takes a stretch of plain bytes, and then one character that the reader tells.
abbrev pub invariant-loop-far : goal.invariant-loop-far
invariant-loop-far l = StretchedAs l.part l.from l.on l.k l.n l.initial.out l.put (record { at = l.at; put = l.to; count = l.count }) l.out

abbrev pub decreases-loop-far : goal.decreases-loop-far
decreases-loop-far l = length l.part - l.at
