use borrow.Author.Rules.{rules}
use Rattle.shapes.proofs.Marking.{mark_put}
use Rattle.shapes.proofs.put_mark.Goals as goal

-- The tag is one of the sheet, so its text is due, and there is room for it.
-- Assumes nothing.
pub returns : goal.returns
returns c =
    mark_put c.args.s.now c.args.l c.requires.laid_out c.args.t c.requires.tag_there c.args.ending c.args.mark.now (search rules) _ _ c.put_tag.ensures
