use Rattle.shapes.proofs.Telling.{no_root, no_star, no_record, same_nonterminal, not_shaped, is_shaped}
use Rattle.shapes.proofs.shape_of.Goals as goal

-- One test after another, as the definition has them.
-- Assumes nothing.
pub returns-in_err-root : goal.returns-in_err-root
returns-in_err-root c =
    rw c.from_residual.ensures (no_root c.args.s.now c.args.l.start c.requires.laid_out.layout_is.start_is.is c.in_err-root.ensures)

pub returns-in_err-n : goal.returns-in_err-n
returns-in_err-n c =
    rw c.from_residual-in_err-n.ensures (no_star c.args.s.now c.args.l.start c.requires.laid_out.layout_is.start_is.is _ c.in_ok-root.ensures c.in_err-n.ensures)

pub returns-in_err-record : goal.returns-in_err-record
returns-in_err-record c =
    rw c.from_residual-in_err-record.ensures (no_record c.args.s.now c.args.l.start c.requires.laid_out.layout_is.start_is.is _ c.in_ok-root.ensures _ c.in_ok-n.ensures c.in_err-record.ensures)

pub returns-then-n-start : goal.returns-then-n-start
returns-then-n-start c =
    same_nonterminal c.args.s.now c.args.l.start c.requires.laid_out.layout_is.start_is.is _ c.in_ok-root.ensures _ c.in_ok-n.ensures _ c.in_ok-record.ensures c.if-n-start.true

pub all_shaped-requires : goal.all_shaped-requires
all_shaped-requires c =
    record { laid_out = c.requires.laid_out; runs_inside = c.requires.runs_inside }

pub returns-then-not-all_shaped : goal.returns-then-not-all_shaped
returns-then-not-all_shaped c =
    not_shaped c.args.s.now c.args.l.start c.requires.laid_out.layout_is.start_is.is _ c.in_ok-root.ensures _ c.in_ok-n.ensures _ c.in_ok-record.ensures
    c.if-n-start.false c.all_shaped.ensures c.if-not-all_shaped.true

pub returns : goal.returns
returns c =
    is_shaped c.args.s.now c.args.l.start c.requires.laid_out.layout_is.start_is.is _ c.in_ok-root.ensures _ c.in_ok-n.ensures _ c.in_ok-record.ensures
    c.if-n-start.false c.all_shaped.ensures c.if-not-all_shaped.false
