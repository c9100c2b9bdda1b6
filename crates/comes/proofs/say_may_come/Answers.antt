use native.Mathlib.Omega.{arith}
use Rattle.layout.proofs.Laws.{laid_out}
use Rattle.sheet.proofs.DefectLaws.{no_defect}
use borrow.Author.Rules.{rules}
use Rattle.comes.proofs.say_may_come.Goals as goal

-- Without a defect the sheet is laid out and well-formed.
-- src/lib.rt:113:8
-- src/lib.rt:114:9
-- src/lib.rt:116:9
pub layout_of-l-requires : goal.layout_of-l-requires
layout_of-l-requires c = (no_defect c.defect.ensures (omega arith)).size.least

-- src/lib.rt:117:5
pub say_there-requires : goal.say_there-requires
say_there-requires c =
    let w = no_defect c.defect.ensures (omega arith) in
    record { laid_out = laid_out c.layout_of-l.ensures w.size w.sections; well_formed = w }

-- src/lib.rt:112:1
