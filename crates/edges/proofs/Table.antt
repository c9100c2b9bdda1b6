-- The rows hold, part by part of the table. Assumes nothing.
use mathlib.Core.Path.{refl}
use mathlib.Core.List.{◌++◌}
use Rattle.runs.specs.Examples.{Each}
use Rattle.edges.specs.Edges.{EdgeHolds, of_sheets, of_faults, of_fronts, of_states, of_shapes, edges}
use Rattle.edges.proofs.Fits.{EdgeFits, all_hold, both_fit}
use Rattle.edges.proofs.Defects.{sheets_fit}
use Rattle.edges.proofs.Faults.{faults_fit}
use Rattle.edges.proofs.Tokens.{fronts_fit}
use Rattle.edges.proofs.States.{states_fit}

-- the sheets of a salvage run are computed
shapes_fit : Each EdgeFits of_shapes
shapes_fit = (refl, ((refl, refl), tt))

pub edges_hold : Each EdgeHolds edges
edges_hold =
    all_hold edges
    (both_fit of_sheets (of_faults ++ (of_fronts ++ (of_states ++ of_shapes))) sheets_fit
    (both_fit of_faults (of_fronts ++ (of_states ++ of_shapes)) faults_fit (both_fit of_fronts (of_states ++ of_shapes) fronts_fit (both_fit of_states of_shapes states_fit shapes_fit))))
