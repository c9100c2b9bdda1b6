use native.Mathlib.Omega.{arith}
use Rattle.layout.proofs.Laws.{laid_out}
use Rattle.sheet.proofs.DefectLaws.{no_defect}
use Rattle.whereabouts.proofs.say_rejected.Goals as goal

-- Without a defect the sheet is laid out.
pub layout_of-l-requires : goal.layout_of-l-requires
layout_of-l-requires c = (no_defect c.defect.ensures (omega arith)).size.least

pub say_program-requires : goal.say_program-requires
say_program-requires c =
    let w = no_defect c.defect.ensures (omega arith) in
    record { laid_out = laid_out c.layout_of-l.ensures w.size w.sections; q_lt_productions = c.if-production-l.true }
