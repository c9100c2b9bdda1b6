use mathlib.Core.Path.{◌≡◌}
use Prim.Native.Nat.{◌-◌}
use lib.ListN.{length}
use Rattle.files.proofs.fill.Given as goal

-- Each turn that goes on leaves fewer bytes of the memory to fill.
abbrev pub invariant-loop-held : goal.invariant-loop-held
invariant-loop-held l = length l.memory ≡ length l.initial.memory

abbrev pub decreases-loop-held : goal.decreases-loop-held
decreases-loop-held l = length l.initial.memory - l.held
