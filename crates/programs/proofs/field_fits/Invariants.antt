use mathlib.Core.List.{List}
use Prim.Native.Nat.{◌-◌}
use Rattle.programs.specs.Program.{Program}
use Rattle.programs.specs.Section.{Fill}
use Rattle.programs.proofs.Sections.{Walked}
use Rattle.programs.proofs.field_fits.Given as goal

-- The invariant: what is left is filled by the programs ahead, and a program starts at the field among all exactly when it starts among those
-- ahead, at what is left of the field. Assumes nothing.
abbrev pub invariant-loop-i : goal.invariant-loop-i
invariant-loop-i l = (ps : List Program) → Fill l.tags l.strings l.section ps → Walked l.tags l.strings l.section ps l.field l.i

abbrev pub decreases-loop-i : goal.decreases-loop-i
decreases-loop-i l = l.start - l.i
