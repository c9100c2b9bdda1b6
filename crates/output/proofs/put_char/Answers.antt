use native.Mathlib.Omega.{arith}
use mathlib.Core.Path.{sym, ◌∙◌}
use Rattle.text.proofs.Shapes.{shape1, shape2, shape3, shape4, char_most}
use Rattle.output.specs.Escape.{escaped}
use Rattle.output.proofs.Writing
use borrow.Author.Rules.{rules}
use Rattle.output.proofs.put_char.Goals as goal

-- Each return cites the shape of the character's bytes in its range, and that it is none of & < > and CR, or which of them it is.
pub returns-then-c-eq38 : goal.returns-then-c-eq38
returns-then-c-eq38 c = Writing.same_bytes _ _ _ _ (escaped c.args.c) _ _ (Writing.escaped_amp c.args.c c.if-c-eq38.true) c.put_bytes.ensures

pub returns-then-c-eq60 : goal.returns-then-c-eq60
returns-then-c-eq60 c = Writing.same_bytes _ _ _ _ (escaped c.args.c) _ _ (Writing.escaped_lt c.args.c c.if-c-eq60.true) c.put_bytes-then-c-eq60.ensures

pub returns-then-c-eq62 : goal.returns-then-c-eq62
returns-then-c-eq62 c = Writing.same_bytes _ _ _ _ (escaped c.args.c) _ _ (Writing.escaped_gt c.args.c c.if-c-eq62.true) c.put_bytes-then-c-eq62.ensures

pub returns-then-c-eq13 : goal.returns-then-c-eq13
returns-then-c-eq13 c = Writing.same_bytes _ _ _ _ (escaped c.args.c) _ _ (Writing.escaped_cr c.args.c c.if-c-eq13.true) c.put_bytes-then-c-eq13.ensures

pub returns-then-c-lt128 : goal.returns-then-c-lt128
returns-then-c-lt128 c = Writing.same_bytes _ _ _ _ (escaped c.args.c) _ _ (sym (shape1 c.args.c c.if-c-lt128.true) ∙ Writing.escaped_other c.args.c c.if-c-eq38.false c.if-c-eq60.false c.if-c-eq62.false c.if-c-eq13.false) c.put_bytes-then-c-lt128.ensures

pub returns-then-c-lt2048 : goal.returns-then-c-lt2048
returns-then-c-lt2048 c = Writing.same_bytes _ _ _ _ (escaped c.args.c) _ _ (sym (shape2 c.args.c c.if-c-lt128.false c.if-c-lt2048.true) ∙ Writing.escaped_other c.args.c c.if-c-eq38.false c.if-c-eq60.false c.if-c-eq62.false c.if-c-eq13.false) c.put_bytes-then-c-lt2048.ensures

pub returns-then-c-lt65536 : goal.returns-then-c-lt65536
returns-then-c-lt65536 c = Writing.same_bytes _ _ _ _ (escaped c.args.c) _ _ (sym (shape3 c.args.c c.if-c-lt2048.false c.if-c-lt65536.true) ∙ Writing.escaped_other c.args.c c.if-c-eq38.false c.if-c-eq60.false c.if-c-eq62.false c.if-c-eq13.false) c.put_bytes-then-c-lt65536.ensures

pub overflow_cast-w-2 : goal.overflow_cast-w-2
overflow_cast-w-2 c = omega (arith, char_most c.requires.char)

pub returns : goal.returns
returns c = Writing.same_bytes _ _ _ _ (escaped c.args.c) _ _ (sym (shape4 c.args.c c.if-c-lt65536.false) ∙ Writing.escaped_other c.args.c c.if-c-eq38.false c.if-c-eq60.false c.if-c-eq62.false c.if-c-eq13.false) c.put_bytes-2.ensures
