use native.Mathlib.Omega.{arith}
use Rattle.layout.proofs.Laws.{laid_out}
use Rattle.sheet.proofs.SheetLaws.{is_sheet}
use Rattle.faults.specs.Verdict.{malformed}
use Rattle.sheet.proofs.DefectLaws.{no_defect}
use Rattle.faults.proofs.Answered.{verdict_by}
use Rattle.faults.proofs.verdict.Goals as goal

-- A defect is the verdict; without one the bytes are a sheet, and the dry pass tells its number.
pub returns-then-number-gt0 : goal.returns-then-number-gt0
returns-then-number-gt0 c = malformed c.if-number-gt0.true c.defect-number.ensures

pub layout_of-l-requires : goal.layout_of-l-requires
layout_of-l-requires c = (no_defect c.defect-number.ensures (omega arith)).size.least

pub list_faults-ends-requires : goal.list_faults-ends-requires
list_faults-ends-requires c =
    let w = no_defect c.defect-number.ensures (omega arith) in
    record { laid_out = laid_out c.layout_of-l.ensures w.size w.sections; well_formed = w }

pub returns : goal.returns
returns c =
    let w = no_defect c.defect-number.ensures (omega arith) in
    verdict_by (is_sheet w).1 c.list_faults-ends.ensures c.fault_number.ensures
