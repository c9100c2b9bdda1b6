use native.Mathlib.Omega.{arith}
use Rattle.notation.specs.Tokens.{EMPTY}
use Rattle.lexemes.proofs.Found.{word_read, only_read, none_read}
use borrow.Author.Rules.{rules}
use Rattle.lexemes.proofs.of_kind.Goals as goal

-- Each answer is that of its range of kinds.
pub varied-requires : goal.varied-requires
varied-requires c = c.if-k-lt10.true

pub returns-then-k-lt10 : goal.returns-then-k-lt10
returns-then-k-lt10 c = only_read c.args.may c.args.k c.args.x.now c.varied.result c.if-may.true c.varied.ensures

pub word-requires : goal.word-requires
word-requires c = (omega arith, c.if-k-lt23.true)

pub returns-then-k-lt23 : goal.returns-then-k-lt23
returns-then-k-lt23 c = only_read c.args.may c.args.k c.args.x.now c.word.result c.if-may.true c.word.ensures

pub sign-requires : goal.sign-requires
sign-requires c = (omega arith, c.if-k-lt34.true)

pub returns-then-k-lt34 : goal.returns-then-k-lt34
returns-then-k-lt34 c = only_read c.args.may c.args.k c.args.x.now c.sign.result c.if-may.true c.sign.ensures

pub returns-then-may : goal.returns-then-may
returns-then-may c = only_read c.args.may c.args.k c.args.x.now c.plain.result c.if-may.true (word_read EMPTY c.args.k c.args.x.now c.plain.result (omega (arith, c.requires)) c.plain.ensures)

pub returns : goal.returns
returns c = none_read c.args.may c.args.k c.args.x.now c.if-may.false
