use borrow.Author.Rules.{rules}
use mathlib.Core.Path.{refl}
use Prim.Native.Nat.{◌<◌}
use native.Mathlib.Omega.{arith}
use Rattle.layout.specs.Layout.{production_count}
use Rattle.layout.proofs.Laws.{laid_out}
use Rattle.sheet.proofs.DefectLaws.{no_defect, runs_inside}
use Rattle.sheet.proofs.SheetLaws.{is_sheet}
use Rattle.ways.proofs.Spots.{spot_there}
use Rattle.shortest.proofs.Answers.{no_sheet, no_production, at_start, past_last, at_atom}
use Rattle.shortest.proofs.shortest.Goals as goal

-- `shortest`: no sheet, no such production, its start, past its atoms, or a walk over its tree.
-- Assumes nothing.
pub returns-then-defect-gt0 : goal.returns-then-defect-gt0
returns-then-defect-gt0 c = no_sheet _ _ _ c.if-defect-gt0.true c.defect.ensures c.no_atoms-none.ensures

pub layout_of-l-requires : goal.layout_of-l-requires
layout_of-l-requires c = (no_defect c.defect.ensures (omega arith)).size.least

pub returns-then-l-q : goal.returns-then-l-q
returns-then-l-q c =
    let sheet = (is_sheet (no_defect c.defect.ensures (omega arith))).1 in
    no_production _ _ _ sheet (omega (arith, c.if-l-q.true, c.layout_of-l.ensures.productions_is.is)) c.no_atoms-none.ensures

pub returns-then-p-eq0 : goal.returns-then-p-eq0
returns-then-p-eq0 c =
    let sheet = (is_sheet (no_defect c.defect.ensures (omega arith))).1 in
    at_start _ _ _ sheet (omega (arith, c.if-l-q.false, c.layout_of-l.ensures.productions_is.is)) c.if-p-eq0.true c.no_atoms-none.ensures

pub atoms_of-atoms-requires : goal.atoms_of-atoms-requires
atoms_of-atoms-requires c =
    let w = no_defect c.defect.ensures (omega arith) in
    record { laid_out = laid_out c.layout_of-l.ensures w.size w.sections; runs_inside = runs_inside _ w.productions; trees = w.trees; q_lt_productions = c.if-l-q.false }

pub returns-then-atoms-p : goal.returns-then-atoms-p
returns-then-atoms-p c =
    let sheet = (is_sheet (no_defect c.defect.ensures (omega arith))).1 in
    past_last _ _ _ sheet (omega (arith, c.if-l-q.false, c.layout_of-l.ensures.productions_is.is)) _ c.atoms_of-atoms.ensures c.if-atoms-p.true c.no_atoms-none.ensures

pub node_count_of-nodes-requires : goal.node_count_of-nodes-requires
node_count_of-nodes-requires c =
    let w = no_defect c.defect.ensures (omega arith) in
    record { laid_out = laid_out c.layout_of-l.ensures w.size w.sections; q_lt_productions = c.if-l-q.false }

pub first_node_of-first-requires : goal.first_node_of-first-requires
first_node_of-first-requires c =
    let w = no_defect c.defect.ensures (omega arith) in
    record { laid_out = laid_out c.layout_of-l.ensures w.size w.sections; q_lt_productions = c.if-l-q.false }

pub up_to-requires : goal.up_to-requires
up_to-requires c =
    let w = no_defect c.defect.ensures (omega arith) in
    let below : c.args.q < production_count c.args.sheet.now = omega (arith, c.if-l-q.false, c.layout_of-l.ensures.productions_is.is) in
    let few = (w.productions.each _ below).few_nodes in
    let n = c.node_count_of-nodes.ensures.is in
    let some = c.atoms_of-atoms.ensures.few in
    record { laid_out = laid_out c.layout_of-l.ensures w.size w.sections; spot_in = spot_there _ _ _ n (λ z. c.if-p-eq0.false (omega (arith, n, some, c.if-atoms-p.false))) _ c.first_node_of-first.ensures.is refl refl refl w.trees (runs_inside _ w.productions) below few; nodes_bound = omega (arith, c.no_atoms-none.ensures.length_is, n, few) }

pub returns : goal.returns
returns c =
    let sheet = (is_sheet (no_defect c.defect.ensures (omega arith))).1 in
    at_atom _ _ _ sheet (omega (arith, c.if-l-q.false, c.layout_of-l.ensures.productions_is.is)) _ c.atoms_of-atoms.ensures c.if-p-eq0.false c.if-atoms-p.false _ c.no_atoms-none.ensures _ c.first_node_of-first.ensures.is refl refl c.up_to.ensures
