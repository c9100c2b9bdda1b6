use Rattle.clauses.specs.Clauses.{sign_where}
use Rattle.output.proofs.Writing.{same_bytes}
use Rattle.clauses.proofs.Laws.{sign_there, no_sign}
use borrow.Author.Rules.{rules}
use Rattle.clauses.proofs.put_where.Goals as goal

-- The sign is there, or it is not.
pub returns-then-wanted : goal.returns-then-wanted
returns-then-wanted c = let a = c.args in same_bytes _ _ _ _ (sign_where a.wanted a.sign) _ _ (sign_there a.wanted a.sign c.if-wanted.true) c.put_bytes.ensures

pub returns : goal.returns
returns c = let a = c.args in same_bytes _ _ _ _ (sign_where a.wanted a.sign) _ _ (no_sign a.wanted a.sign c.if-wanted.false) c.put_bytes-2.ensures
