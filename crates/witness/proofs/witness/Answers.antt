use borrow.Author.Rules.{rules}
use mathlib.Core.Path.{refl}
use Prim.Native.Nat.{◌<◌}
use native.Mathlib.Omega.{arith}
use Rattle.layout.specs.Layout.{production_count}
use Rattle.layout.proofs.Laws.{laid_out}
use Rattle.sheet.proofs.DefectLaws.{no_defect, runs_inside}
use Rattle.sheet.proofs.SheetLaws.{is_sheet}
use Rattle.witness.specs.Answers.{malformed}
use Rattle.witness.proofs.Answers.{no_production, too_few, two_found}
use Rattle.witness.proofs.witness.Goals as goal

-- `witness`: no sheet, no such production, too few strings, or two of them.
-- Assumes nothing.
pub returns-then-number-gt0 : goal.returns-then-number-gt0
returns-then-number-gt0 c = malformed c.if-number-gt0.true c.defect-number.ensures c.no_witness.ensures

pub layout_of-l-requires : goal.layout_of-l-requires
layout_of-l-requires c = (no_defect c.defect-number.ensures (omega arith)).size.least

pub returns-then-l-q : goal.returns-then-l-q
returns-then-l-q c =
    let sheet = (is_sheet (no_defect c.defect-number.ensures (omega arith))).1 in
    no_production sheet _ _ _ (omega (arith, c.if-l-q.true, c.layout_of-l.ensures.productions_is.is)) _ c.no_witness-then-l-q.ensures

pub firsts-pair-requires : goal.firsts-pair-requires
firsts-pair-requires c =
    let w = no_defect c.defect-number.ensures (omega arith) in
    let below : c.args.q < production_count c.args.sheet.now = omega (arith, c.if-l-q.false, c.layout_of-l.ensures.productions_is.is) in
    record { laid_out = laid_out c.layout_of-l.ensures w.size w.sections; runs_inside = runs_inside _ w.productions; trees = w.trees; q_lt_productions = c.if-l-q.false; q_bound = (w.productions.each _ below).few_nodes }

pub returns-then-pair-lt2 : goal.returns-then-pair-lt2
returns-then-pair-lt2 c =
    let sheet = (is_sheet (no_defect c.defect-number.ensures (omega arith))).1 in
    too_few sheet _ _ _ _ c.firsts-pair.ensures c.if-pair-lt2.true _ c.no_witness-then-pair-lt2.ensures

pub returns : goal.returns
returns c =
    let sheet = (is_sheet (no_defect c.defect-number.ensures (omega arith))).1 in
    two_found sheet _ _ _ _ c.firsts-pair.ensures _ refl refl refl c.sign_between-sign.ensures c.if-pair-lt2.false (omega (arith, c.if-l-q.false, c.layout_of-l.ensures.productions_is.is))
