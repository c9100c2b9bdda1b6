use borrow.Author.Rules.{rules}
use Rattle.output.proofs.Writing.{same_bytes}
use Rattle.passages.specs.Passages.{end_word}
use Rattle.passages.proofs.Laws.{closed, closed_empty, closed_end}
use Rattle.passages.proofs.put_closing.Goals as goal

-- It is there, or it is not, with a space where the branch has a statement.
pub returns-then-bare : goal.returns-then-bare
returns-then-bare c = let a = c.args in same_bytes _ _ _ _ (end_word a.bare a.empty) _ _ (closed a.bare a.empty c.if-bare.true) c.put_bytes.ensures

pub returns-then-empty : goal.returns-then-empty
returns-then-empty c = let a = c.args in same_bytes _ _ _ _ (end_word a.bare a.empty) _ _ (closed_empty a.bare a.empty c.if-bare.false c.if-empty.true) c.put_bytes-then-empty.ensures

pub returns : goal.returns
returns c = let a = c.args in same_bytes _ _ _ _ (end_word a.bare a.empty) _ _ (closed_end a.bare a.empty c.if-bare.false c.if-empty.false) c.put_bytes-2.ensures
