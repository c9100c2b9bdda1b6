use Prim.Native.Nat.{◌≤◌, ◌-◌}
use lib.ListN.{length, drop}
use Rattle.programs.specs.Parsed.{Filled}
use Rattle.programs.proofs.programs_fill.Given as goal

-- The invariant: what is left is filled exactly when all is. Each turn takes one program from the front. Assumes nothing.
abbrev pub invariant-loop-i : goal.invariant-loop-i
invariant-loop-i l = (l.i ≤ length l.section) × (Filled l.tags l.strings (drop l.i l.section) → Filled l.tags l.strings l.section) × (Filled l.tags l.strings l.section → Filled l.tags l.strings (drop l.i l.section))

abbrev pub decreases-loop-i : goal.decreases-loop-i
decreases-loop-i l = length l.section - l.i
