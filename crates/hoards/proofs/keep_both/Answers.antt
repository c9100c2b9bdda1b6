use Rattle.hoards.proofs.Laws.{both_kept, first_full}
use Rattle.hoards.proofs.keep_both.Goals as goal

-- The first field's strings, and then, where they have room, the second's.
pub keep_field-requires : goal.keep_field-requires
keep_field-requires c = record { laid_out = c.requires.laid_out; has_rows = c.requires.has_rows }

pub keep_field-requires-2 : goal.keep_field-requires-2
keep_field-requires-2 c = record { laid_out = c.requires.laid_out; has_rows = c.in_ok-kept.ensures.rows }

pub returns-in_err-kept : goal.returns-in_err-kept
returns-in_err-kept c = first_full c.args.s.now c.args.first c.args.second c.args.bytes.now c.args.ends.now c.args.count _ _ _ c.from_residual.ensures c.in_err-kept.ensures

pub returns : goal.returns
returns c = both_kept c.args.s.now c.args.first c.args.second c.args.bytes.now c.args.ends.now c.args.count _ _ _ c.in_ok-kept.ensures _ _ _ c.keep_field-2.ensures
