use Rattle.notation.specs.Tokens.{decimal}
use Rattle.output.proofs.Writing.{same_bytes}
use Rattle.printer.proofs.Laws.{one_digit, two_digits}
use borrow.Author.Rules.{rules}
use Rattle.printer.proofs.put_decimal.Goals as goal

-- A number under ten is one digit, any other two.
pub returns-then-n-lt10 : goal.returns-then-n-lt10
returns-then-n-lt10 c = same_bytes _ _ _ _ (decimal c.args.n) _ _ (one_digit c.args.n c.if-n-lt10.true) c.put_bytes.ensures

pub returns : goal.returns
returns c = same_bytes _ _ _ _ (decimal c.args.n) _ _ (two_digits c.args.n c.if-n-lt10.false) c.put_bytes-2.ensures
