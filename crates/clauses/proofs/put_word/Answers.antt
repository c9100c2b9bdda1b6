use Rattle.clauses.specs.Clauses.{word_between}
use Rattle.output.proofs.Writing.{same_bytes}
use Rattle.clauses.proofs.Laws.{word_and, word_or}
use borrow.Author.Rules.{rules}
use Rattle.clauses.proofs.put_word.Goals as goal

-- The word is one or the other.
pub returns-then-k-eq2 : goal.returns-then-k-eq2
returns-then-k-eq2 c = let a = c.args in same_bytes _ _ _ _ (word_between a.k) _ _ (word_and a.k c.if-k-eq2.true) c.put_bytes.ensures

pub returns : goal.returns
returns c = let a = c.args in same_bytes _ _ _ _ (word_between a.k) _ _ (word_or a.k c.if-k-eq2.false) c.put_bytes-2.ensures
