use borrow.Author.Rules.{rules}
use native.Mathlib.Omega.{arith}
use Rattle.judging.proofs.Words.{only_begun, is_apart, nothing_more, name_behind, no_name_behind}
use Rattle.judging.proofs.word_stands.Goals as goal

-- The word is compared with the front, and the byte behind it looked at.
pub returns-in-Begun : goal.returns-in-Begun
returns-in-Begun c = let a = c.args in only_begun a.front.now a.word.now c.compare.result c.compare.ensures c.in-Begun.is

pub returns-in-No : goal.returns-in-No
returns-in-No c = let a = c.args in is_apart a.front.now a.word.now c.compare.result c.compare.ensures c.in-No.is

pub returns-then-name_byte : goal.returns-then-name_byte
returns-then-name_byte c =
    let a = c.args in
    let p = c.compare in
    name_behind a.front.now a.word.now p.result p.ensures c.in-Whole.is c.if-word-front.true c.name_byte.result c.name_byte.ensures c.if-name_byte.true

pub returns-then-word-front : goal.returns-then-word-front
returns-then-word-front c =
    let a = c.args in
    let p = c.compare in
    no_name_behind a.front.now a.word.now p.result p.ensures c.in-Whole.is c.if-word-front.true c.name_byte.result c.name_byte.ensures c.if-name_byte.false

pub returns : goal.returns
returns c =
    let a = c.args in
    let p = c.compare in
    nothing_more a.front.now a.word.now p.result p.ensures c.in-Whole.is (λ h. omega (arith, h, c.if-word-front.false))
