use native.Mathlib.Omega.{arith}
use mathlib.Core.Path.{refl}
use Rattle.layout.proofs.Laws.{laid_out}
use Rattle.faults.specs.Checked.{malformed}
use Rattle.sheet.proofs.DefectLaws.{no_defect}
use Rattle.faults.proofs.check.Goals as goal

-- A defect is the answer; without one the bytes are a sheet, and its faults are.
pub returns-then-number-gt0 : goal.returns-then-number-gt0
returns-then-number-gt0 c = malformed c.if-number-gt0.true c.defect-number.ensures refl refl

pub layout_of-l-requires : goal.layout_of-l-requires
layout_of-l-requires c = (no_defect c.defect-number.ensures (omega arith)).size.least

pub check_faults-requires : goal.check_faults-requires
check_faults-requires c =
    let w = no_defect c.defect-number.ensures (omega arith) in
    record { laid_out = laid_out c.layout_of-l.ensures w.size w.sections; well_formed = w }
