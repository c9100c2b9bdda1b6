use native.Mathlib.Omega.{arith}
use Rattle.layout.proofs.Laws.{laid_out}
use Rattle.sheet.proofs.DefectLaws.{runs_inside, no_defect}
use borrow.Author.Rules.{rules}
use Rattle.whereabouts.proofs.say_open.Goals as goal

-- Without a defect the sheet is laid out, and its productions' nodes are its nodes.
pub layout_of-l-requires : goal.layout_of-l-requires
layout_of-l-requires c = (no_defect c.defect.ensures (omega arith)).size.least

pub say_around-requires : goal.say_around-requires
say_around-requires c =
    let w = no_defect c.defect.ensures (omega arith) in
    record { laid_out = laid_out c.layout_of-l.ensures w.size w.sections; runs_inside = runs_inside _ w.productions }
