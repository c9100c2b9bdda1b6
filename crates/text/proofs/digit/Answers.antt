use borrow.Author.Rules.{rules}
use native.Mathlib.Omega.{arith}
use Rattle.text.proofs.NumeralLaws.{digit_before, digit_decimal, digit_between, digit_upper, digit_amid, digit_lower, digit_after}
use Rattle.text.proofs.digit.Goals as goal

-- Each return cites the law of `NumeralLaws` for the byte's range.
pub returns-then-b-lt48 : goal.returns-then-b-lt48
returns-then-b-lt48 c = digit_before c.args.b (omega arith)

pub returns-then-b-lt58 : goal.returns-then-b-lt58
returns-then-b-lt58 c = digit_decimal _ (omega arith) (omega arith)

pub returns-then-b-lt65 : goal.returns-then-b-lt65
returns-then-b-lt65 c = digit_between c.args.b (omega arith) (omega arith)

pub returns-then-b-lt71 : goal.returns-then-b-lt71
returns-then-b-lt71 c = digit_upper _ (omega arith) (omega arith)

pub returns-then-b-lt97 : goal.returns-then-b-lt97
returns-then-b-lt97 c = digit_amid c.args.b (omega arith) (omega arith)

pub returns-then-b-lt103 : goal.returns-then-b-lt103
returns-then-b-lt103 c = digit_lower _ (omega arith) (omega arith)

pub returns : goal.returns
returns c = digit_after c.args.b (omega arith)
