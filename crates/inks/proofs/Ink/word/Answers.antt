use mathlib.Core.Path.{refl, sym, ap}
use Rattle.strokes.specs.Strokes.{word_stroke}
use Rattle.inks.proofs.Laws.{stroke_as, idle_as, marked_as, no_word}
use borrow.Author.Rules.{rules}
use Rattle.inks.proofs.Ink.word.Goals as goal

-- Each answer by the law that it names. Assumes nothing.
pub returns-then-kind-eq15 : goal.returns-then-kind-eq15
returns-then-kind-eq15 c = stroke_as c.args.self (sym (ap word_stroke c.if-kind-eq15.true)) c.test.ensures

pub returns-then-kind-eq16 : goal.returns-then-kind-eq16
returns-then-kind-eq16 c = let s = c.args.self in stroke_as s (sym (ap word_stroke c.if-kind-eq16.true)) (marked_as s 0 refl c.push.ensures.held c.marked.ensures)

pub returns-then-kind-eq17 : goal.returns-then-kind-eq17
returns-then-kind-eq17 c = stroke_as c.args.self (sym (ap word_stroke c.if-kind-eq17.true)) c.otherwise.ensures

pub returns-then-kind-eq18 : goal.returns-then-kind-eq18
returns-then-kind-eq18 c = let s = c.args.self in stroke_as s (sym (ap word_stroke c.if-kind-eq18.true)) (marked_as s s.mode refl c.push-then-kind-eq18.ensures.held c.marked-then-kind-eq18.ensures)

pub returns-then-kind-eq19 : goal.returns-then-kind-eq19
returns-then-kind-eq19 c = stroke_as c.args.self (sym (ap word_stroke c.if-kind-eq19.true)) c.end.ensures

pub returns : goal.returns
returns c = idle_as c.args.self (no_word _ c.if-kind-eq15.false c.if-kind-eq16.false c.if-kind-eq17.false c.if-kind-eq18.false c.if-kind-eq19.false) c.requires
