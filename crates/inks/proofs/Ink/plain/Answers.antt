use mathlib.Core.Path.{sym, ap}
use Rattle.strokes.specs.Strokes.{plain_stroke}
use Rattle.inks.proofs.Laws.{stroke_as, idle_as, no_plain}
use borrow.Author.Rules.{rules}
use Rattle.inks.proofs.Ink.plain.Goals as goal

-- Each answer by the law that it names. Assumes nothing.
pub returns-then-kind-eq11 : goal.returns-then-kind-eq11
returns-then-kind-eq11 c = stroke_as c.args.self (sym (ap plain_stroke c.if-kind-eq11.true)) c.byte.ensures

pub returns-then-kind-eq12 : goal.returns-then-kind-eq12
returns-then-kind-eq12 c = stroke_as c.args.self (sym (ap plain_stroke c.if-kind-eq12.true)) c.byte-then-kind-eq12.ensures

pub returns-then-kind-eq13 : goal.returns-then-kind-eq13
returns-then-kind-eq13 c = stroke_as c.args.self (sym (ap plain_stroke c.if-kind-eq13.true)) c.byte-then-kind-eq13.ensures

pub returns : goal.returns
returns c = idle_as c.args.self (no_plain _ c.if-kind-eq11.false c.if-kind-eq12.false c.if-kind-eq13.false) c.requires
