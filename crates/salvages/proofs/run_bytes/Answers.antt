use mathlib.Core.Path.{sym}
use native.Mathlib.Omega.{arith}
use lib.Seq.{length-take-le}
use borrow.Author.Rules.{rules}
use Rattle.salvages.proofs.Begins.{shaped_run, shaped_returning, record_there, root_there, grounds_here, marked_here}
use Rattle.salvages.proofs.run_bytes.Goals as goal

-- The tags are the sheet's, so the two byte strings are those at which reading resumes; and bytes that fit can be read.
-- Assumes nothing.
pub put_mark-long-requires : goal.put_mark-long-requires
put_mark-long-requires c =
    record { laid_out = c.requires.laid_out; tag_there = record_there c.requires.may_salvage c.args.root c.args.tag c.requires.shape_told }

pub put_mark-wide-requires : goal.put_mark-wide-requires
put_mark-wide-requires c =
    record { laid_out = c.requires.laid_out; tag_there = root_there c.requires.may_salvage c.args.root c.args.tag c.requires.shape_told }

pub stand_in-stand-requires : goal.stand_in-stand-requires
stand_in-stand-requires c =
    let m = c.requires.may_salvage in
    record { state_len = m.fits.wide; shaped = shaped_run m; shaped_2 = shaped_returning m }

pub slice_bounds-start-end : goal.slice_bounds-start-end
slice_bounds-start-end c =
    let w = c.put_mark-long in
    omega (arith, w.ensures.wide, w.ensures.short)

pub slice_bounds-run_from-end : goal.slice_bounds-run_from-end
slice_bounds-run_from-end c =
    let w = c.put_mark-long in
    sym (length-take-le w.result w.new.mark (omega (arith, w.ensures.wide, w.ensures.short)))

pub slice_bounds-end-end : goal.slice_bounds-end-end
slice_bounds-end-end c =
    let w = c.put_mark-wide in
    omega (arith, w.ensures.wide, w.ensures.short)

pub slice_bounds-run_from-end-2 : goal.slice_bounds-run_from-end-2
slice_bounds-run_from-end-2 c =
    let w = c.put_mark-wide in
    sym (length-take-le w.result w.new.mark (omega (arith, w.ensures.wide, w.ensures.short)))

pub run_from-requires : goal.run_from-requires
run_from-requires c =
    let M = c.requires.may_salvage in
    let T = c.requires.shape_told in
    let start = c.put_mark-long in
    let end = c.put_mark-wide in
    record { laid_out = c.requires.laid_out; may_salvage = M; grounds = grounds_here M c.args.root c.args.tag T; resumption_is = marked_here M c.args.root c.args.tag T _ _ _ _ start.ensures end.ensures; base_value = c.number_at-passed.ensures; stand_as = c.stand_in-stand.ensures }
