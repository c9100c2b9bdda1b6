use mathlib.Core.Path.{sym, ap}
use Rattle.strokes.specs.Strokes.{sign_stroke}
use Rattle.inks.proofs.Laws.{stroke_as, idle_as, no_sign}
use borrow.Author.Rules.{rules}
use Rattle.inks.proofs.Ink.sign.Goals as goal

-- Each answer by the law that it names. Assumes nothing.
pub returns-then-kind-eq20 : goal.returns-then-kind-eq20
returns-then-kind-eq20 c = stroke_as c.args.self (sym (ap sign_stroke c.if-kind-eq20.true)) c.and.ensures

pub returns-then-kind-eq21 : goal.returns-then-kind-eq21
returns-then-kind-eq21 c = stroke_as c.args.self (sym (ap sign_stroke c.if-kind-eq21.true)) c.or.ensures

pub returns-then-kind-eq22 : goal.returns-then-kind-eq22
returns-then-kind-eq22 c = stroke_as c.args.self (sym (ap sign_stroke c.if-kind-eq22.true)) c.byte.ensures

pub returns-then-kind-eq24 : goal.returns-then-kind-eq24
returns-then-kind-eq24 c = stroke_as c.args.self (sym (ap sign_stroke c.if-kind-eq24.true)) c.paged.ensures

pub returns-then-kind-eq25 : goal.returns-then-kind-eq25
returns-then-kind-eq25 c = stroke_as c.args.self (sym (ap sign_stroke c.if-kind-eq25.true)) c.«open».ensures

pub returns-then-kind-eq26 : goal.returns-then-kind-eq26
returns-then-kind-eq26 c = stroke_as c.args.self (sym (ap sign_stroke c.if-kind-eq26.true)) c.close.ensures

pub returns-then-kind-eq32 : goal.returns-then-kind-eq32
returns-then-kind-eq32 c = stroke_as c.args.self (sym (ap sign_stroke c.if-kind-eq32.true)) c.separate.ensures

pub returns : goal.returns
returns c = idle_as c.args.self (no_sign _ c.if-kind-eq20.false c.if-kind-eq21.false c.if-kind-eq22.false c.if-kind-eq24.false c.if-kind-eq25.false c.if-kind-eq26.false c.if-kind-eq32.false) c.requires
