use Rattle.inks.proofs.Laws.{stroke_as, operand_as, code_small, is_plain, is_word, is_sign}
use native.Mathlib.Omega.{arith}
use borrow.Author.Rules.{rules}
use Rattle.inks.proofs.Ink.put.Goals as goal

-- Each answer by the law that it names. Assumes nothing.
pub operand-requires : goal.operand-requires
operand-requires c = record { trim = c.requires; code_bound = omega (arith, c.operand_code-code.ensures, code_small c.args.second c.args.kind) }

pub returns-then-kind-lt5 : goal.returns-then-kind-lt5
returns-then-kind-lt5 c = let a = c.args in operand_as a.self a.second a.kind a.number c.operand_code-code.ensures c.low.ensures c.if-kind-lt5.true c.operand.ensures

pub returns-then-kind-lt15 : goal.returns-then-kind-lt15
returns-then-kind-lt15 c = let a = c.args in stroke_as a.self (is_plain a.kind a.second a.number (omega (arith, c.if-kind-lt5.false)) c.if-kind-lt15.true) c.plain.ensures

pub returns-then-kind-lt20 : goal.returns-then-kind-lt20
returns-then-kind-lt20 c = let a = c.args in stroke_as a.self (is_word a.kind a.second a.number (omega (arith, c.if-kind-lt5.false)) (omega (arith, c.if-kind-lt15.false)) c.if-kind-lt20.true) c.word.ensures

pub returns : goal.returns
returns c = let a = c.args in stroke_as a.self (is_sign a.kind a.second a.number (omega (arith, c.if-kind-lt5.false)) (omega (arith, c.if-kind-lt15.false)) (omega (arith, c.if-kind-lt20.false))) c.sign.ensures
