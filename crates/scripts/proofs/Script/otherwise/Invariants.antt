use mathlib.Core.Path.{◌≡◌}
use Rattle.extents.proofs.Parts.{Going}
use Rattle.extents.specs.Held.{extent_of, layers_at}
use Rattle.scripts.specs.Scripts.{layers_in}
use Rattle.outlines.specs.Statements.{else_of}
use Rattle.scripts.proofs.Script.otherwise.Given as goal

-- The loop goes from the innermost outward, and what is left gives the same; each answer by the law that it names. Assumes nothing.
abbrev pub invariant-loop-i : goal.invariant-loop-i
invariant-loop-i l = Going l.self.layers l.self.depth l.i l.e × (else_of (layers_at l.self.layers l.i) (extent_of l.e) ≡ else_of (layers_in l.self) (extent_of l.initial.e))
