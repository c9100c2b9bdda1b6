use mathlib.Core.Path.{◌≡◌}
use Rattle.outlines.specs.Statements.{closed_list}
use Rattle.extents.specs.Held.{extent_of, layers_at}
use Rattle.extents.proofs.Parts.{Going}
use Rattle.extents.proofs.close.Given as goal

-- The loop goes from the innermost outward, and what is left gives the same; each answer by the law that it names. Assumes nothing.
abbrev pub invariant-loop-i : goal.invariant-loop-i
invariant-loop-i l = Going l.layers l.n l.i l.e × (closed_list (layers_at l.layers l.i) (extent_of l.e) ≡ closed_list (layers_at l.layers l.n) (extent_of l.initial.e))
