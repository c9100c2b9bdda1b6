-- The runs on small sheets hold: they are computed. Assumes nothing.
use mathlib.Core.Path.{refl}
use native.Mathlib.Omega.{arith}
use Rattle.runs.specs.Examples.{RunHolds, Each}
use Rattle.runs.proofs.Examples.{computed, given, Fits, run_holds, each}
use Rattle.worked.specs.Small.{examples}

all_fit : Each Fits examples
all_fit = search arith depth 40 fits 5000

pub examples_hold : Each RunHolds examples
examples_hold = each Fits RunHolds computed given run_holds examples all_fit refl
