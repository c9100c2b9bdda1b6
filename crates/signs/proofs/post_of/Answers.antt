use borrow.Author.Rules.{rules}
use Prim.Native.Nat.{◌<◌}
use native.Mathlib.Omega.{arith}
use Rattle.layout.specs.Layout.{production_count}
use Rattle.layout.proofs.Laws.{laid_out}
use Rattle.sheet.proofs.DefectLaws.{no_defect, runs_inside}
use Rattle.signs.proofs.Answers.{no_sheet, no_production, as_asked}
use Rattle.signs.proofs.post_of.Goals as goal

-- No sheet, no such production, or the post that is asked for. Assumes nothing.
pub returns-then-defect-gt0 : goal.returns-then-defect-gt0
returns-then-defect-gt0 c = no_sheet _ _ _ _ _ c.defect.ensures c.if-defect-gt0.true

pub layout_of-l-requires : goal.layout_of-l-requires
layout_of-l-requires c = (no_defect c.defect.ensures (omega arith)).size.least

pub returns-then-l-q : goal.returns-then-l-q
returns-then-l-q c = no_production _ _ _ _ (omega (arith, c.if-l-q.true, c.layout_of-l.ensures.productions_is.is))

pub post_in-requires : goal.post_in-requires
post_in-requires c =
    let w = no_defect c.defect.ensures (omega arith) in
    let below : c.args.q < production_count c.args.sheet.now = omega (arith, c.if-l-q.false, c.layout_of-l.ensures.productions_is.is) in
    record { laid_out = laid_out c.layout_of-l.ensures w.size w.sections; runs_inside = runs_inside _ w.productions; trees = w.trees; q_lt_productions = c.if-l-q.false; q_bound = (w.productions.each _ below).few_nodes }

pub returns : goal.returns
returns c = as_asked _ _ _ _ c.post_in.ensures
