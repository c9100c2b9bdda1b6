use Rattle.advance.proofs.Laws.{filed_row}
use borrow.Author.Rules.{rules}
use Rattle.advance.proofs.file_row.Goals as goal

-- src/lib.rt:15:1
pub returns : goal.returns
returns c =
    let r = c.row_of-n in
    let f = c.file in
    filed_row _ _ _ _ _ _ _ _ _ _ _ _ _ _ _ _ _ _ _ r.result f.result (search rules) r.ensures f.ensures
