-- What is promised of a declaration that is being read. Assumes nothing.
use Rattle.std.specs.Prelude.{◌≡◌, List, ℕ, ◌≤◌}
use Rattle.std.proofs.Math.Option.{some}
use Rattle.models.specs.Expressions.{spec_nodes}
use Rattle.models.specs.Reader.{Phase, to, step_phase, finished_phase}
use Rattle.models.specs.Names.{whole_names}
use Rattle.declarations.specs.Nodes.{room_for_nodes}
use Rattle.levels.specs.Promises.{NumberedAlike}
use Rattle.stages.specs.declared.Headway.{Headway}
use Rattle.stages.specs.Headway.{HeadwayIs}
use Rattle.stages.specs.Steps.{FewNodesIn}

-- only the numbers of the names that are whole matter
abbrev pub HeadwayStays : Type 0
HeadwayStays = (number number' : List ℕ → ℕ) (q : Phase) (s : Headway) → NumberedAlike number number' (whole_names q) → HeadwayIs number q s → HeadwayIs number' q s

-- what one byte makes of a phase within the limit of nodes has room
abbrev pub StepHasRoom : Type 0
StepHasRoom = (p : ℕ) (q q' : Phase) (b : ℕ) → FewNodesIn q → step_phase p q b ≡ some (to q') → spec_nodes (finished_phase q').content ≤ room_for_nodes
