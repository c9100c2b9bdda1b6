use mathlib.Core.Path.{◌≡◌}
use Rattle.outlines.specs.Conditions.{with_margins}
use Rattle.extents.specs.Held.{extent_of, margins_at}
use Rattle.extents.proofs.Parts.{Holding}
use Rattle.extents.proofs.margin_all.Given as goal

-- The loop goes from the innermost outward, and what is left gives the same; each answer by the law that it names. Assumes nothing.
abbrev pub invariant-loop-i : goal.invariant-loop-i
invariant-loop-i l = Holding l.margins l.n l.i l.e × (with_margins (margins_at l.margins l.i) (extent_of l.e) ≡ with_margins (margins_at l.margins l.n) (extent_of l.initial.e))
