use mathlib.Core.List.{[], ◌∷◌}
use native.Mathlib.Omega.{arith}
use Rattle.faults.proofs.Laws.{no_entry, an_entry}
use mathlib.Core.Path.{ap}
use mathlib.Core.Bool.{not}
use Rattle.faults.proofs.put_entry.Goals as goal

-- An entry is put where there is a fault, else nothing.
pub returns-then-not-fault : goal.returns-then-not-fault
returns-then-not-fault c =
    let a = c.args in
    record { put_as = no_entry a.fault (a.rule ∷ a.first ∷ a.second ∷ a.third ∷ []) (ap not c.if-not-fault.true); upper_bound = omega arith }

pub returns : goal.returns
returns c =
    let a = c.args in
    let put = c.put_bytes.ensures in
    record { put_as = an_entry a.rule a.first a.second a.third a.fault (ap not c.if-not-fault.false) put; upper_bound = omega (arith, put.next) }
