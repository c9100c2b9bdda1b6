use Rattle.rejecting.proofs.Rows.{code_named}
use borrow.Author.Rules.{rules}
use Rattle.rejecting.proofs.visit_of.Goals as goal

-- src/lib.rt:74:15
pub overflow_cast-result : goal.overflow_cast-result
overflow_cast-result c = search rules

-- src/lib.rt:69:1
pub returns : goal.returns
returns c =
    record { is = λ b e. code_named c.args.q c.args.c b e }
