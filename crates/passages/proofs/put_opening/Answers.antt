use borrow.Author.Rules.{rules}
use Rattle.output.proofs.Writing.{same_bytes}
use Rattle.passages.specs.Passages.{opening_of}
use Rattle.passages.proofs.Laws.{opened, opened_begin}
use Rattle.passages.proofs.put_opening.Goals as goal

-- It is there, or it is not.
pub returns-then-bare : goal.returns-then-bare
returns-then-bare c = let a = c.args in same_bytes _ _ _ _ (opening_of a.bare) _ _ (opened a.bare c.if-bare.true) c.put_bytes.ensures

pub returns : goal.returns
returns c = let a = c.args in same_bytes _ _ _ _ (opening_of a.bare) _ _ (opened_begin a.bare c.if-bare.false) c.put_bytes-2.ensures
