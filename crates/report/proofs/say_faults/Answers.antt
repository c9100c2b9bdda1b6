use Rattle.std.proofs.Common.{arith, rules}
use Rattle.layout.proofs.Laws.{laid_out}
use Rattle.sheet.proofs.DefectLaws.{runs_inside, no_defect}
use Rattle.report.proofs.say_faults.Goals as goal

-- Without a defect the sheet is laid out, and its productions' nodes are its nodes.
pub defect-requires : goal.defect-requires
defect-requires c = search rules

pub returns-then-defect-gt0 : goal.returns-then-defect-gt0
returns-then-defect-gt0 c = search rules

pub layout_of-l-requires : goal.layout_of-l-requires
layout_of-l-requires c = (no_defect c.defect.ensures (omega arith)).size.least

pub say_all-requires : goal.say_all-requires
say_all-requires c =
    let w = no_defect c.defect.ensures (omega arith) in
    record { laid_out = laid_out c.layout_of-l.ensures w.size w.sections; runs_inside = runs_inside _ w.productions }

pub returns : goal.returns
returns c = search rules
